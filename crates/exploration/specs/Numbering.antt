-- States that are numbered breadth first, and automata whose states stand for the states of a system.
use Rattle.std.specs.Prelude.{◌≡◌, ◌↔◌, ◌<◌, ℕ, List, [], ◌∷◌, Option, None, Some, length, slice_get, IsTrue}
use Rattle.sequence.specs.WordOrder.{is_before, IsLeastWord}
use Rattle.word_automata.specs.Automaton.{Automaton, target, accepts_from}
use Rattle.exploration.specs.DeterministicSystem.{DeterministicSystem, accepts_by_from}

-- the state to which the word leads from the state, if it leads anywhere
abbrev pub run_from : Automaton → ℕ → List ℕ → Option ℕ
run_from m q [] = Some q
run_from m q (a ∷ w) = elim (target m q a) [ None ↦ None | Some r ↦ run_from m r w ]

-- the word leads from state 0 to the state q
abbrev pub Reaches : Automaton → ℕ → List ℕ → Type 0
Reaches m q w = run_from m 0 w ≡ Some q

-- each state has a least word that leads to it, and these words increase with the state's number
pub record IsBreadthFirst (m : Automaton) : Type 0 where
  pub reached : (q : ℕ) → q < length m.states → (w : List ℕ) × IsLeastWord (Reaches m q) w
  pub increasing : (p q : ℕ) (u w : List ℕ) → p < q → q < length m.states
      → IsLeastWord (Reaches m p) u → IsLeastWord (Reaches m q) w → IsTrue (is_before u w)

-- each state of the automaton stands for a state of the system that has the property P, no two for the same one,
-- and accepts what the system accepts from there
pub record StandsFor {S : Type 0} (t : DeterministicSystem S) (P : S → Type 0) (m : Automaton) : Type 0 where
  pub found : List S
  pub count : length found ≡ length m.states
  pub states : (q : ℕ) (s : S) → slice_get found q ≡ Some s → P s
  pub distinct : (p q : ℕ) (s : S) → slice_get found p ≡ Some s → slice_get found q ≡ Some s → p ≡ q
  pub language : (q : ℕ) (s : S) → slice_get found q ≡ Some s → (w : List ℕ) → accepts_from m q w ≡ accepts_by_from t s w

-- the same for states that stand for languages
pub record StandsForLanguages {S : Type 0} (language : S → List ℕ → Type 0) (P : S → Type 0) (m : Automaton) : Type 0 where
  pub found : List S
  pub count : length found ≡ length m.states
  pub states : (q : ℕ) (s : S) → slice_get found q ≡ Some s → P s
  pub distinct : (p q : ℕ) (s : S) → slice_get found p ≡ Some s → slice_get found q ≡ Some s → p ≡ q
  pub accepted : (q : ℕ) (s : S) → slice_get found q ≡ Some s → (w : List ℕ) → IsTrue (accepts_from m q w) ↔ language s w
