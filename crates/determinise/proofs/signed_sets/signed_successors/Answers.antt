use Rattle.std.proofs.Common.{◌<◌, ℕ, List, [], ◌∷◌, ◌++◌, All, refl, sym, subst}
use Rattle.std.proofs.lemmas.List.Elements.{All-head, All-tail}
use Rattle.std.specs.Vec.Iter.{into_iter_items}
use Rattle.bit_subsets.specs.Subsets.{IsSubset}
use Rattle.determinise.specs.private.Signatures.{AreSigned}
use Rattle.determinise.proofs.Signatures.{signed-push}
use Rattle.determinise.proofs.signed_sets.signed_successors.Goals as goal

pub pairs-init : goal.pairs-init
pairs-init c = (
  tt,
  tt,
  subst (AreSigned c.args.atoms.now []) (sym c.in_ok-successors.ensures.items) tt,
  subst (All (λ (pair : ℕ × List ℕ). IsSubset c.args.subsets.now.automaton.now pair.1)) (sym c.into_iter-letter-iterator.ensures.into_iter_gives.0) c.in_ok-pairs.ensures.states,
)

pub signed-requires : goal.signed-requires
signed-requires c =
    let rest = subst (All (λ (pair : ℕ × List ℕ). IsSubset c.args.subsets.now.automaton.now pair.1)) c.in-Some.ensures.steps.0 c.pairs.invariant.3 in
    let subset = All-head (λ (pair : ℕ × List ℕ). IsSubset c.args.subsets.now.automaton.now pair.1) (c.in-Some.letter, c.in-Some.states) (into_iter_items c.next.new.self) rest in
    subst (λ l. All (λ q. q < l) c.in-Some.states) (sym c.requires.count) subset.states

pub pairs-preserved : goal.pairs-preserved
pairs-preserved c =
    let rest = subst (All (λ (pair : ℕ × List ℕ). IsSubset c.args.subsets.now.automaton.now pair.1)) c.in-Some.ensures.steps.0 c.pairs.invariant.3 in (
      tt,
      tt,
      subst (AreSigned c.args.atoms.now (c.pairs.yielded ++ (c.in-Some.letter, c.in-Some.states) ∷ [])) (sym c.in_ok-push.ensures.items)
          (signed-push c.args.atoms.now c.pairs.yielded c.pairs.successors.items (c.in-Some.letter, c.in-Some.states) (c.in-Some.letter, c.in_ok-signed.field-0)
          c.pairs.invariant.2 refl c.in_ok-signed.ensures),
      All-tail (λ (pair : ℕ × List ℕ). IsSubset c.args.subsets.now.automaton.now pair.1) (c.in-Some.letter, c.in-Some.states) (into_iter_items c.next.new.self) rest,
    )
