use Rattle.std.proofs.Common.{◌≡◌, ◌+◌, ◌++◌, ◌∷◌, [], suc, sym, ap, subst, ◌∙◌, arith}
use Rattle.word_automata.specs.Automaton.{IsValid, HasIncreasingLetters}
use Rattle.exploration.specs.DeterministicSystem.{IsSuccessors}
use Rattle.boolean_operations.specs.OptionalStates.{follow, IsStateOrNone}
use Rattle.boolean_operations.specs.private.MergedEdges.{IsPassed, IsTaken}
use Rattle.boolean_operations.specs.Complements.{complement_system}
use Rattle.boolean_operations.proofs.Letters.{valued, valued-suc}
use Rattle.boolean_operations.proofs.OptionalStates.{edges_at-increasing, follow-edges}
use Rattle.boolean_operations.proofs.Complements.{complement_successors}
use Rattle.boolean_operations.proofs.complementation.ComplementSystemTransitionSystem.successors.Goals as goal

pub letters-init : goal.letters-init
letters-init c = record {
  made = c.new-successors.ensures.items;
  passed = record { below = λ k edge l at. absurd (omega arith); above = λ k edge l at. omega arith };
}

pub take-target-requires-clause-sorted : goal.take-target-requires-clause-sorted
take-target-requires-clause-sorted c = subst HasIncreasingLetters (sym c.edges_at-edges.ensures) (edges_at-increasing c.args.self.now.automaton.now c.requires.0 c.args.state.now)

pub take-target-requires-clause-passed : goal.take-target-requires-clause-passed
take-target-requires-clause-passed c = subst (λ xs. IsPassed xs c.letters.place c.letters.letter) (sym c.edges_at-edges.ensures) c.letters.invariant.passed

pub letters-preserved : goal.letters-preserved
letters-preserved c =
    let m = c.args.self.now.automaton.now in
    let s = c.args.state.now in
    let letter = c.letters.letter in
    let taken = subst (λ xs. IsTaken xs c.letters.place letter c.take-target.result.0 c.take-target.result.1) c.edges_at-edges.ensures c.take-target.ensures in
    record {
      made = c.in_ok-push.ensures.items
          ∙ ap (λ xs. xs ++ (letter, c.take-target.result.0) ∷ []) c.letters.invariant.made
          ∙ ap (λ o. valued (follow m s) letter ++ (letter, o) ∷ []) (taken.target_is ∙ sym (follow-edges m s letter))
          ∙ sym (valued-suc (follow m s) letter)
          ∙ ap (valued (follow m s)) (let e : suc letter ≡ letter + 1 = omega arith in e);
      passed = taken.passed;
    }

pub returns : goal.returns
returns c =
    let m = c.args.self.now.automaton.now in
    let s = c.args.state.now in
    let all : c.letters.letter ≡ m.letters = omega (arith, c.letters-letter-end.ensures, c.letters-test.false, c.letters.auto.letter-end) in
    subst (IsSuccessors (complement_system m) (λ state. IsValid m × IsStateOrNone m state) s) (sym (c.letters.invariant.made ∙ ap (valued (follow m s)) all))
    (complement_successors m c.requires.0 s)
