use Rattle.std.proofs.Common.{◌<◌, inl, inr, Contains, length, take, get_or, subst, sym, ◌≡◌, ◌∙◌, arith}
use Rattle.std.proofs.lemmas.List.{take_all, take_more}
use Rattle.std.proofs.lemmas.List.Elements.{Contains-get_or, Contains-push_cases}
use Rattle.image_preimage.specs.private.Triples.{IsFound, triple_of}
use Rattle.image_preimage.proofs.TripleLemmas.{start_leads_out}
use Rattle.image_preimage.proofs.triples.Triples.begin.Goals as goal

pub find-requires-clause-triple : goal.find-requires-clause-triple
find-requires-clause-triple c =
    let self = c.args.self.now in
    let starts = c.starts-start-items.result.now in
    let lt : c.starts.start-index < length starts = omega arith in
    let start = get_or starts c.starts.start-index 0 in
    start_leads_out self.t.now self.a.now self.b.now start
    (subst (λ l. Contains l start) c.starts-start-items.ensures (Contains-get_or starts c.starts.start-index 0 lt))

pub starts-preserved : goal.starts-preserved
starts-preserved c =
    let starts = c.starts-start-items.result.now in
    let i = c.starts.start-index in
    let lt : i < length starts = omega arith in
    let finds = c.in_ok-find.ensures in (
      finds.reached,
      rw (take_more starts i 0 lt)
          (λ p h. elim (Contains-push_cases (take i starts) (get_or starts i 0) p h) [
            | inl earlier ↦ (let found = c.starts.invariant.1 p earlier in (found.0, finds.grows found.0 (triple_of p 0 0) found.1))
            | inr is ↦ subst (λ p. IsFound c.find.new.found.states.items (triple_of p 0 0)) is finds.is_found
          ]),
    )

pub returns-clause-starts : goal.returns-clause-starts
returns-clause-starts c p is =
    let starts = c.starts-start-items.result.now in
    let all : take c.starts.start-index starts ≡ starts = take_all c.starts.start-index starts (let end = c.starts-test.false in omega arith) in
    c.starts.invariant.1 p (subst (λ l. Contains l p) (sym (all ∙ c.starts-start-items.ensures)) is)
