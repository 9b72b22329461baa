use Rattle.std.proofs.Common.{◌<◌, ◌+◌, ◌-◌, ℕ, List, length, inl, inr, sym, ap, subst, ◌∙◌, arith}
use Rattle.std.proofs.lemmas.Option.{slice_get_within}
use Rattle.word_automata.specs.Automaton.{HasIncreasingLetters}
use Rattle.boolean_operations.specs.OptionalStates.{edges_at}
use Rattle.boolean_operations.specs.private.MergedEdges.{IsPassed, IsTaken, IsLeastLetter, IsMerging}
use Rattle.boolean_operations.proofs.OptionalStates.{edges_at-increasing}
use Rattle.boolean_operations.proofs.MergedPairs.{merging_nothing, left_passed, right_passed, merging_none, merging_pair, merged_all}
use Rattle.boolean_operations.proofs.products.ProductTransitionSystem.successors.Goals as goal
use Rattle.boolean_operations.proofs.products.ProductTransitionSystem.successors.Goals.{then-i-left, else-i-left+then-j-right, After-least_letter-letter, After-take-right_target}

pub letters-init : goal.letters-init
letters-init c =
    let s = c.args.self.now in
    let p = c.args.state.now.0 in
    let q = c.args.state.now.1 in
    subst (IsMerging s.operation s.left.now s.right.now (edges_at s.left.now p) (edges_at s.right.now q) 0 0) (sym c.in_ok-successors.ensures.items)
    (merging_nothing s.same_letters c.requires.0 c.requires.1 p q)

pub least_letter-letter-requires-clause-left : goal.least_letter-letter-requires-clause-left
least_letter-letter-requires-clause-left c = subst HasIncreasingLetters (sym c.edges_at-left.ensures) (edges_at-increasing c.args.self.now.left.now c.requires.0 c.args.state.now.0)

pub least_letter-letter-requires-clause-right : goal.least_letter-letter-requires-clause-right
least_letter-letter-requires-clause-right c = subst HasIncreasingLetters (sym c.edges_at-right.ensures) (edges_at-increasing c.args.self.now.right.now c.requires.1 c.args.state.now.1)

pub least_letter-letter-requires-clause-some : goal.least_letter-letter-requires-clause-some
least_letter-letter-requires-clause-some c = elim c.if-i-left.branch [
  | then-i-left w ↦ inl w.if-i-left.true
  | else-i-left+then-j-right w ↦ inr w.if-j-right.true
]

pub take-left_target-requires-clause-sorted : goal.take-left_target-requires-clause-sorted
take-left_target-requires-clause-sorted c = subst HasIncreasingLetters (sym c.edges_at-left.ensures) (edges_at-increasing c.args.self.now.left.now c.requires.0 c.args.state.now.0)

pub take-right_target-requires-clause-sorted : goal.take-right_target-requires-clause-sorted
take-right_target-requires-clause-sorted c = subst HasIncreasingLetters (sym c.edges_at-right.ensures) (edges_at-increasing c.args.self.now.right.now c.requires.1 c.args.state.now.1)

least_at : (c : After-least_letter-letter) → IsLeastLetter (edges_at c.args.self.now.left.now c.args.state.now.0) c.letters.i
    (edges_at c.args.self.now.right.now c.args.state.now.1) c.letters.j c.least_letter-letter.result
least_at c =
    let q = c.args.state.now.1 in
    let letter = c.least_letter-letter.result in
    subst (λ xs. IsLeastLetter xs c.letters.i (edges_at c.args.self.now.right.now q) c.letters.j letter) c.edges_at-left.ensures
    (subst (λ ys. IsLeastLetter c.edges_at-left.result.now c.letters.i ys c.letters.j letter) c.edges_at-right.ensures c.least_letter-letter.ensures)

left_taken : (c : After-take-right_target) → IsTaken (edges_at c.args.self.now.left.now c.args.state.now.0) c.letters.i c.least_letter-letter.result
    c.take-left_target.result.0 c.take-left_target.result.1
left_taken c =
    subst (λ xs. IsTaken xs c.letters.i c.least_letter-letter.result c.take-left_target.result.0 c.take-left_target.result.1) c.edges_at-left.ensures c.take-left_target.ensures

right_taken : (c : After-take-right_target) → IsTaken (edges_at c.args.self.now.right.now c.args.state.now.1) c.letters.j c.least_letter-letter.result
    c.take-right_target.result.0 c.take-right_target.result.1
right_taken c =
    subst (λ xs. IsTaken xs c.letters.j c.least_letter-letter.result c.take-right_target.result.0 c.take-right_target.result.1) c.edges_at-right.ensures c.take-right_target.ensures

-- one of the places moves on
moves_on : (c : After-take-right_target) →
    (length c.edges_at-left.result.now - c.take-left_target.result.1) + (length c.edges_at-right.result.now - c.take-right_target.result.1)
    < (length c.edges_at-left.result.now - c.letters.i) + (length c.edges_at-right.result.now - c.letters.j)
moves_on c =
    let x = c.take-left_target.ensures in
    let y = c.take-right_target.ensures in
    elim c.least_letter-letter.ensures.one [
      | inl here ↦ omega (arith, x.moves here.0 here.1 here.2, slice_get_within c.edges_at-left.result.now c.letters.i here.0 here.1, y.forward)
      | inr here ↦ omega (arith, y.moves here.0 here.1 here.2, slice_get_within c.edges_at-right.result.now c.letters.j here.0 here.1, x.forward)
    ]

pub take-left_target-requires-clause-passed : goal.take-left_target-requires-clause-passed
take-left_target-requires-clause-passed c =
    subst (λ xs. IsPassed xs c.letters.i c.least_letter-letter.result) (sym c.edges_at-left.ensures)
    (left_passed c.args.self.now.same_letters c.requires.0 c.requires.1 c.args.state.now.0 c.args.state.now.1 c.letters.invariant
    (least_at (goal.at.take-left_target-requires-clause-passed c).After-least_letter-letter))

pub take-right_target-requires-clause-passed : goal.take-right_target-requires-clause-passed
take-right_target-requires-clause-passed c =
    subst (λ xs. IsPassed xs c.letters.j c.least_letter-letter.result) (sym c.edges_at-right.ensures)
    (right_passed c.args.self.now.same_letters c.requires.0 c.requires.1 c.args.state.now.0 c.args.state.now.1 c.letters.invariant
    (least_at (goal.at.take-right_target-requires-clause-passed c).After-least_letter-letter))

-- the letter becomes no pair
pub letters-preserved : goal.letters-preserved
letters-preserved c =
    let w = goal.at.letters-preserved c in
    merging_none c.args.self.now.same_letters c.requires.0 c.requires.1 c.args.state.now.0 c.args.state.now.1 c.letters.invariant
    (least_at w.After-least_letter-letter) (left_taken w.After-take-right_target) (right_taken w.After-take-right_target) (sym c.pair.ensures ∙ c.in_default.is)

-- or a pair
pub letters-preserved-in_ok-push : goal.letters-preserved-in_ok-push
letters-preserved-in_ok-push c =
    let s = c.args.self.now in
    let p = c.args.state.now.0 in
    let q = c.args.state.now.1 in
    let w = goal.at.letters-preserved-in_ok-push c in
    subst (IsMerging s.operation s.left.now s.right.now (edges_at s.left.now p) (edges_at s.right.now q) c.take-left_target.result.1 c.take-right_target.result.1) (sym c.in_ok-push.ensures.items)
    (merging_pair s.same_letters c.requires.0 c.requires.1 p q c.letters.invariant
    (least_at w.After-least_letter-letter) (left_taken w.After-take-right_target) (right_taken w.After-take-right_target) c.in-Some.pair (sym c.pair.ensures ∙ c.in-Some.is))

pub letters-smaller : goal.letters-smaller
letters-smaller c = moves_on (goal.at.letters-smaller c).After-take-right_target

pub letters-smaller-in_ok-push : goal.letters-smaller-in_ok-push
letters-smaller-in_ok-push c = moves_on (goal.at.letters-smaller-in_ok-push c).After-take-right_target

pub returns : goal.returns
returns c =
    merged_all c.args.self.now.same_letters c.requires.0 c.requires.1 c.args.state.now.0 c.args.state.now.1 c.letters.invariant
    (omega (arith, ap (λ (es : List (ℕ × ℕ)). length es) c.edges_at-left.ensures, c.if-i-left.false))
    (omega (arith, ap (λ (es : List (ℕ × ℕ)). length es) c.edges_at-right.ensures, c.if-j-right.false))
