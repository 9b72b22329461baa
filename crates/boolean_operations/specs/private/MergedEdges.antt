-- Two sorted lists of edges that are merged letter by letter.
use Rattle.std.specs.Prelude.{◌≡◌, ◌+◌, ◌<◌, ◌≤◌, ◌⊎◌, ℕ, List, Option, Some, All, slice_get}
use Rattle.word_automata.specs.Automaton.{Automaton, find_target}
use Rattle.exploration.specs.DeterministicSystem.{look_up, HasIncreasingLetters}
use Rattle.boolean_operations.specs.private.Products.{pair_of, IsPairOfStates}
use Rattle.boolean_operations.specs.declared.products.Operation.{Operation}

-- the edges before place i have letters below the letter, and the others have it or greater ones
pub record IsPassed (edges : List (ℕ × ℕ)) (i letter : ℕ) : Type 0 where
  pub below : (k : ℕ) (edge : ℕ × ℕ) → k < i → slice_get edges k ≡ Some edge → edge.0 < letter
  pub above : (k : ℕ) (edge : ℕ × ℕ) → i ≤ k → slice_get edges k ≡ Some edge → letter ≤ edge.0

-- the target of the edge with the letter, if there is one, and the place behind the edges up to the letter
pub record IsTaken (edges : List (ℕ × ℕ)) (i letter : ℕ) (target : Option ℕ) (next : ℕ) : Type 0 where
  pub target_is : target ≡ find_target edges letter
  pub passed : IsPassed edges next (letter + 1)
  pub forward : i ≤ next
  pub moves : (edge : ℕ × ℕ) → slice_get edges i ≡ Some edge → edge.0 ≡ letter → next ≡ i + 1

-- the edge at place i has the letter
abbrev pub HasLetterAt : List (ℕ × ℕ) → ℕ → ℕ → Type 0
HasLetterAt edges i letter = (edge : ℕ × ℕ) × (slice_get edges i ≡ Some edge) × (edge.0 ≡ letter)

-- the letter is the least of the edges from place i of the first list and from place j of the second
pub record IsLeastLetter (left : List (ℕ × ℕ)) (i : ℕ) (right : List (ℕ × ℕ)) (j letter : ℕ) : Type 0 where
  pub left_above : (k : ℕ) (edge : ℕ × ℕ) → i ≤ k → slice_get left k ≡ Some edge → letter ≤ edge.0
  pub right_above : (k : ℕ) (edge : ℕ × ℕ) → j ≤ k → slice_get right k ≡ Some edge → letter ≤ edge.0
  pub one : HasLetterAt left i letter ⊎ HasLetterAt right j letter

-- for each letter below the bound the list has the pair of its targets, if it is live
pub record AreMerged (operation : Operation) (m n : Automaton) (left right : List (ℕ × ℕ)) (bound : ℕ) (pairs : List (ℕ × (Option ℕ × Option ℕ))) : Type 0 where
  pub increasing : HasIncreasingLetters pairs
  pub below : All (λ pair. pair.0 < bound) pairs
  pub in_range : All (λ pair. pair.0 < m.letters) pairs
  pub states : All (λ pair. IsPairOfStates m n pair.1) pairs
  pub steps : (a : ℕ) → a < bound → look_up pairs a ≡ pair_of operation (find_target left a) (find_target right a)

-- all edges before place i of the first list and before place j of the second were merged
pub record IsMerging (operation : Operation) (m n : Automaton) (left right : List (ℕ × ℕ)) (i j : ℕ) (pairs : List (ℕ × (Option ℕ × Option ℕ))) : Type 0 where
  pub bound : ℕ
  pub left_passed : IsPassed left i bound
  pub right_passed : IsPassed right j bound
  pub merged : AreMerged operation m n left right bound pairs
