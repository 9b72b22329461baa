-- The successors of a set of bits, letter by letter.
use Rattle.std.specs.Prelude.{◌≡◌, ◌<◌, ◌↔◌, ℕ, List, [], ◌∷◌, None, Some, All, length, slice_index_or}
use Rattle.word_automata.specs.Nondeterministic.{NondeterministicAutomaton, AcceptsFromAny}
use Rattle.word_automata.specs.StateSets.{IsStep}
use Rattle.exploration.specs.DeterministicSystem.{look_up, HasIncreasingLetters}
use Rattle.bit_subsets.specs.Subsets.{IsSubset, members}

-- there is a set for each letter: the states to which it leads from those of the set
pub record AreTargets (n : NondeterministicAutomaton) (set : List ℕ) (rows : List (List ℕ)) : Type 0 where
  pub count : length rows ≡ n.letters
  pub steps : (a : ℕ) → IsStep n a (members set) (members (slice_index_or rows a []))

-- the pairs are the successors of the set under the letters below the bound
pub record AreSuccessorsBelow (n : NondeterministicAutomaton) (set : List ℕ) (bound : ℕ) (pairs : List (ℕ × List ℕ)) : Type 0 where
  pub subset : IsSubset n (members set)
  pub increasing : HasIncreasingLetters pairs
  pub below : All (λ pair. pair.0 < bound) pairs
  pub subsets : All (λ pair. IsSubset n (members pair.1)) pairs
  pub goes_on : (a : ℕ) (r : List ℕ) → look_up pairs a ≡ Some r → (w : List ℕ) → AcceptsFromAny n (members set) (a ∷ w) ↔ AcceptsFromAny n (members r) w
  pub stops : (a : ℕ) → a < bound → look_up pairs a ≡ None → (w : List ℕ) → AcceptsFromAny n (members set) (a ∷ w) → ⊥
