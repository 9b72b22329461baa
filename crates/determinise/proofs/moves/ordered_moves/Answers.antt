use Rattle.std.proofs.Common.{rules, ◌+◌, subst, sym, arith, get_or, IsPermutation, Contains, List, ℕ}
use Rattle.std.proofs.lemmas.List.Sorted.{Contains-permutation, IsPermutation-sym, IsNonDecreasingBy-from_sort_by_key}
use Rattle.determinise.specs.private.Subsets.{moves_from, order_key, HasOrderedLetters}
use Rattle.determinise.proofs.MoveLists.{letter_from_key}
use Rattle.determinise.proofs.moves.ordered_moves.Goals as goal

pub returns-then-are_ordered : goal.returns-then-are_ordered
returns-then-are_ordered c = record {
  to = λ move there. subst (λ (xs : List (ℕ × ℕ)). Contains xs move) (sym c.in_ok-moves.ensures) there;
  from = λ move there. subst (λ (xs : List (ℕ × ℕ)). Contains xs move) c.in_ok-moves.ensures there;
  ordered = subst (λ (xs : List (ℕ × ℕ)). HasOrderedLetters xs) c.deref.ensures.value (c.are_ordered.ensures c.if-are_ordered.true);
}

pub returns : goal.returns
returns c =
    let sorted = c.sort_unstable_by_key.new.self.items in
    let found = moves_from c.args.automaton.now c.args.states.now in
    let reordered = subst (λ xs. IsPermutation xs sorted) c.in_ok-moves.ensures c.sort_unstable_by_key.ensures.permutation in
    let rises = IsNonDecreasingBy-from_sort_by_key order_key _ c.sort_unstable_by_key.ensures.sorted (λ a r q k. search rules) in
    record {
      to = λ move there. Contains-permutation found sorted move reordered there;
      from = λ move there. Contains-permutation sorted found move (IsPermutation-sym found sorted reordered) there;
      ordered = λ k l. letter_from_key (get_or sorted k (0, 0)) (get_or sorted (k + 1) (0, 0)) (rises k (k + 1) (0, 0) (omega arith) l);
    }
