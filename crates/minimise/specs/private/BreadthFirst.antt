-- Least states that are found breadth first, each with its number at its place in a table.
use Rattle.std.specs.Prelude.{◌≡◌, ℕ, suc, List, Some, slice_index, slice_get, IsTrue}
use Rattle.word_automata.specs.Automaton.{Automaton}
use Rattle.exploration.specs.DeterministicSystem.{accepts_by, accepts_by_from}
use Rattle.exploration.specs.private.Worklist.{Explored, Numbers}
use Rattle.minimise.specs.Refinement.{quotient, IsLeastState}

-- a state that was found has one more than its place, and other states have 0
pub record ArePlaces (found numbers : List ℕ) : Type 0 where
  pub placed : (r k : ℕ) → slice_index numbers r ≡ suc k → slice_get found k ≡ Some r
  pub numbered : (k r : ℕ) → slice_get found k ≡ Some r → slice_index numbers r ≡ suc k

-- the state has this number, as one that was found or as the next
abbrev pub NumbersLeast : Automaton → List ℕ → List ℕ → List ℕ → Automaton → Automaton → ℕ → ℕ → Type 0
NumbersLeast m classes = Numbers (λ s w. IsTrue (accepts_by_from (quotient m classes) s w))

-- the least states before the one with the number have their edges
abbrev pub AreExplored : Automaton → List ℕ → List ℕ → Automaton → ℕ → List (ℕ × ℕ) → Type 0
AreExplored m classes =
    Explored m.letters (λ w. IsTrue (accepts_by (quotient m classes) w)) (λ s w. IsTrue (accepts_by_from (quotient m classes) s w)) (IsLeastState m classes)
