-- Cited by private functions alone: the nondeterministic automaton over classes of states, each of which has the number of its first state.
use Rattle.std.specs.Prelude.{◌≡◌, ◌↔◌, ◌⊎◌, ◌<◌, ℕ, zero, suc, Bool, true, false, List, Option, None, Some, IsTrue, Contains, length, slice_index, slice_index_or}
use Rattle.word_automata.specs.Path.{edges_of, is_accepting}
use Rattle.word_automata.specs.Automaton.{Automaton, IsValid}
use Rattle.word_automata.specs.Nondeterministic.{NondeterministicAutomaton}
use Rattle.abstraction.specs.declared.class_automaton.ClassEdge.{ClassEdge}

-- one less than a number above 0
abbrev pub before : ℕ → Option ℕ
before zero = None
before (suc n) = Some n

-- what a table knows of the class: the state before the number that stands there, and none at 0
abbrev pub known_at : List ℕ → ℕ → Option ℕ
known_at table class = before (slice_index table class)

-- the first state of the class is known, and what is known stays
pub record IsKnownFirst (old new : ℕ → Option ℕ) (class first : ℕ) : Type 0 where
  pub known : old class ≡ Some first
  pub same : (c : ℕ) → new c ≡ old c

-- the state is the first one of its class, which is known from now on
pub record IsNewFirst (old new : ℕ → Option ℕ) (class state first : ℕ) : Type 0 where
  pub unknown : old class ≡ None
  pub first_is : first ≡ state
  pub added : new class ≡ Some state
  pub same : (c : ℕ) → (class ≡ c → ⊥) → new c ≡ old c

-- a state of the automaton for each of its states
pub record AreTargetsOf (a : Automaton) (firsts : List ℕ) : Type 0 where
  pub count : length firsts ≡ length a.states
  pub within : (p : ℕ) → p < length a.states → slice_index firsts p < length a.states

-- some state of the class accepts
abbrev pub IsAcceptingClass : Automaton → List ℕ → ℕ → Type 0
IsAcceptingClass a firsts k = (p : ℕ) × (p < length a.states) × IsTrue (is_accepting a.states p) × (slice_index firsts p ≡ k)

-- for each number whether it is one of a class of which some state accepts
pub record AreAcceptingFlags (a : Automaton) (firsts : List ℕ) (flags : List Bool) : Type 0 where
  pub count : length flags ≡ length a.states
  pub accepting : (k : ℕ) → (slice_index_or flags k false ≡ true) ↔ IsAcceptingClass a firsts k

-- a number for each state, of which those of classes accept where some state of the class does; the start is the class of state 0
pub record HasClassStates (a : Automaton) (firsts : List ℕ) (n : NondeterministicAutomaton) : Type 0 where
  pub same_letters : n.letters ≡ a.letters
  pub same_size : length n.states ≡ length a.states
  pub starts : (q : ℕ) → Contains n.starts q ↔ ((0 < length a.states) × (slice_index firsts 0 ≡ q))
  pub acceptance : (k : ℕ) → IsTrue (is_accepting n.states k) ↔ IsAcceptingClass a firsts k

-- an edge of some state of the class has the letter and leads to a state of the other class
abbrev pub IsClassMove : Automaton → List ℕ → ℕ → Option ℕ → ℕ → Type 0
IsClassMove a firsts k label t =
    (p : ℕ) × (l : ℕ) × (r : ℕ) × Contains (edges_of a.states p) (l, r)
    × (slice_index firsts p ≡ k) × (label ≡ Some l) × (slice_index firsts r ≡ t)

-- the edges of all states before i and the first j edges of state i were added, and nothing else
pub record HasClassMoves (a : Automaton) (firsts : List ℕ) (seen : List ClassEdge) (n : NondeterministicAutomaton) (i j : ℕ) : Type 0 where
  pub class_states : HasClassStates a firsts n
  pub added : (p l r : ℕ) → p < i → Contains (edges_of a.states p) (l, r)
      → Contains (edges_of n.states (slice_index firsts p)) (Some l, slice_index firsts r)
  pub added_here : (k : ℕ) → k < j
      → Contains (edges_of n.states (slice_index firsts i)) (
        Some (slice_index_or (edges_of a.states i) k (0, 0)).0,
        slice_index firsts (slice_index_or (edges_of a.states i) k (0, 0)).1,
      )
  pub only : (k : ℕ) (label : Option ℕ) (t : ℕ) → Contains (edges_of n.states k) (label, t) → IsClassMove a firsts k label t
  pub seen_added : (step : ClassEdge) → Contains seen step → Contains (edges_of n.states step.from) (Some step.letter, step.to)

-- the edges of all states were added, and nothing else
pub record HasAllClassMoves (a : Automaton) (firsts : List ℕ) (n : NondeterministicAutomaton) : Type 0 where
  pub valid : IsValid a
  pub seen : List ClassEdge
  pub moves : HasClassMoves a firsts seen n (length a.states) 0

-- the edge was seen before, or is new and is added
pub record AddsMoveOnce (old new : List ClassEdge) (before after : NondeterministicAutomaton) (step : ClassEdge) : Type 0 where
  pub same_letters : after.letters ≡ before.letters
  pub same_starts : after.starts ≡ before.starts
  pub same_size : length after.states ≡ length before.states
  pub same_acceptance : (q : ℕ) → is_accepting after.states q ≡ is_accepting before.states q
  pub kept : (q : ℕ) (edge : Option ℕ × ℕ) → Contains (edges_of before.states q) edge → Contains (edges_of after.states q) edge
  pub only : (q : ℕ) (edge : Option ℕ × ℕ) → Contains (edges_of after.states q) edge
      → Contains (edges_of before.states q) edge ⊎ ((q ≡ step.from) × (edge ≡ (Some step.letter, step.to)))
  pub seen : (other : ClassEdge) → Contains new other → Contains old other ⊎ (other ≡ step)
  pub added : Contains old step ⊎ Contains (edges_of after.states step.from) (Some step.letter, step.to)
