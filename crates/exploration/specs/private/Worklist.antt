-- What a breadth-first construction has built when it has gone through some of the states that it found.
use Rattle.std.specs.Prelude.{◌≡◌, ◌<◌, ◌⊎◌, ◌↔◌, ℕ, Bool, List, [], ◌∷◌, ◌++◌, Option, None, Some, length, slice_get, IsTrue}
use Rattle.word_automata.specs.Path.{is_accepting}
use Rattle.word_automata.specs.Automaton.{Automaton, target}
use Rattle.word_automata.specs.Building.{with_state}
use Rattle.exploration.specs.DeterministicSystem.{look_up}
use Rattle.exploration.specs.Residuals.{StartsWith, AreResiduals}

-- the edge, a state and a letter, comes before the one from r under b: it leaves an earlier state, or the same under a smaller letter
abbrev pub IsEarlier : ℕ × ℕ → ℕ → ℕ → Type 0
IsEarlier edge r b = (edge.0 < r) ⊎ ((edge.0 ≡ r) × (edge.1 < b))

-- each of the first n states but 0 has a first edge to it, from an earlier state, and the first edges come in the order of the states
pub record FirstEdges (to : ℕ → ℕ → Option ℕ) (n : ℕ) : Type 0 where
  pub first : ℕ → ℕ × ℕ
  pub edge : (q : ℕ) → 0 < q → q < n → to (first q).0 (first q).1 ≡ Some q
  pub earlier : (q : ℕ) → 0 < q → q < n → (first q).0 < q
  pub least : (q r b : ℕ) → 0 < q → q < n → to r b ≡ Some q → (((first q).0 ≡ r) × ((first q).1 ≡ b)) ⊎ IsEarlier (first q) r b
  pub ordered : (q r : ℕ) → 0 < q → q < r → r < n → IsEarlier (first q) (first r).0 (first r).1

-- the number, if there is one, is the place of the state in the list
abbrev pub IsPlaceOf : {S : Type 0} → List S → Option ℕ → Option S → Type 0
IsPlaceOf found None None = Unit {0}
IsPlaceOf found None (Some s) = ⊥
IsPlaceOf found (Some i) None = ⊥
IsPlaceOf found (Some i) (Some s) = slice_get found i ≡ Some s

-- the states that were found have their numbers and flags; those before the state next have all their edges, the state next those of
-- the pairs, and later states none
pub record Explored {S : Type 0} (letters : ℕ) (accepted : List ℕ → Type 0) (language : S → List ℕ → Type 0) (P : S → Type 0)
    (found : List S) (m : Automaton) (next : ℕ) (pairs : List (ℕ × S)) : Type 0 where
  pub count : length m.states ≡ length found
  pub same_letters : m.letters ≡ letters
  pub begun : StartsWith accepted language (slice_get found 0)
  pub states : (q : ℕ) (s : S) → slice_get found q ≡ Some s → P s
  pub distinct : (p q : ℕ) (s : S) → slice_get found p ≡ Some s → slice_get found q ≡ Some s → p ≡ q
  pub accepting : (q : ℕ) (s : S) → slice_get found q ≡ Some s → IsTrue (is_accepting m.states q) ↔ language s []
  pub done : (q : ℕ) (s : S) → q < next → slice_get found q ≡ Some s
      → (all : List (ℕ × S)) × AreResiduals letters language P s all × ((a : ℕ) → IsPlaceOf found (target m q a) (look_up all a))
  pub current : (a : ℕ) → IsPlaceOf found (target m next a) (look_up pairs a)
  pub later : (q a : ℕ) → next < q → target m q a ≡ None
  pub firsts : FirstEdges (target m) (length found)

-- the state next is being gone through: it is one that was found, the pairs are done, and with the rest they are its residuals
pub record Expands {S : Type 0} (letters : ℕ) (accepted : List ℕ → Type 0) (language : S → List ℕ → Type 0) (P : S → Type 0)
    (found : List S) (m : Automaton) (next : ℕ) (pairs rest : List (ℕ × S)) : Type 0 where
  pub state : S
  pub at : slice_get found next ≡ Some state
  pub explored : Explored letters accepted language P found m next pairs
  pub residuals : AreResiduals letters language P state (pairs ++ rest)

-- the state has this number among the states that were found, and has it already, or is a new one at the end
pub record IsKept {S : Type 0} (old new : List S) (before after : Automaton) (s : S) (number : ℕ) : Type 0 where
  pub same_found : new ≡ old
  pub same_automaton : after ≡ before
  pub at : slice_get old number ≡ Some s

pub record IsAdded {S : Type 0} (language : S → List ℕ → Type 0) (old new : List S) (before after : Automaton) (s : S) (number : ℕ) : Type 0 where
  pub flag : Bool
  pub flag_is : IsTrue flag ↔ language s []
  pub absent : (q : ℕ) → slice_get old q ≡ Some s → ⊥
  pub found : new ≡ old ++ s ∷ []
  pub automaton : after ≡ with_state before flag
  pub number_is : number ≡ length old

abbrev pub Numbers : {S : Type 0} → (S → List ℕ → Type 0) → List S → List S → Automaton → Automaton → S → ℕ → Type 0
Numbers language old new before after s number = IsKept old new before after s number ⊎ IsAdded language old new before after s number
