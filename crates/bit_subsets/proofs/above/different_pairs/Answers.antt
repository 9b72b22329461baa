use Rattle.std.proofs.Common.{◌<◌, ℕ, Contains, length, ap, sym, subst, inl, inr, ◌∙◌, arith}
use Rattle.std.proofs.lemmas.List.Elements.{Contains-get_or, Contains-push_cases}
use Rattle.bit_subsets.proofs.above.different_pairs.Goals as goal

pub pairs-preserved : goal.pairs-preserved
pairs-preserved c p q there =
    let pairs = c.args.pairs.now in
    let pair = c.pair-low.result in
    let place = c.pairs.place in
    let within : place < length pairs = (let t = c.pairs-test.true in let e = c.len-place-end.ensures in omega arith) in
    elim (Contains-push_cases c.pairs.listed.items (pair.0, pair.1) (p, q) (subst (λ xs. Contains xs (p, q)) c.in_ok-push.ensures.items there)) [
      | inl before ↦ c.pairs.invariant p q before
      | inr same ↦ (
        subst (Contains pairs) (c.pair-low.ensures ∙ same) (Contains-get_or pairs place (0, 0) within),
        λ equal. c.if-low-high.false (ap (λ (x : ℕ × ℕ). x.0) same ∙ equal ∙ sym (ap (λ (x : ℕ × ℕ). x.1) same)),
      )
    ]
