-- The automaton of some states of another one, numbered by their places in a list.
use Rattle.std.specs.Prelude.{◌≡◌, ◌<◌, ◌≤◌, ℕ, Bool, false, List, [], map, Option, All, Contains, IfSome, length, slice_index_or}
use Rattle.word_automata.specs.Path.{edges_of, is_accepting}
use Rattle.word_automata.specs.Nondeterministic.{NondeterministicAutomaton}
use Rattle.reduction.specs.private.Copies.{AddsEdges}

-- the place in the list is one of the state
abbrev pub IsPlaceOf : List ℕ → ℕ → ℕ → Type 0
IsPlaceOf states place q = (place < length states) × (slice_index_or states place 0 ≡ q)

-- the table has a place of each of these
abbrev pub HavePlaces : List ℕ → List ℕ → List ℕ → Type 0
HavePlaces these states places = (q : ℕ) → Contains these q → (q < length places) × IsPlaceOf states (slice_index_or places q 0) q

abbrev pub ArePlaces : List ℕ → List ℕ → Type 0
ArePlaces states places = HavePlaces states states places

-- new has the places of those of old that are in the list
pub record HasPlaces (states old new : List ℕ) : Type 0 where
  pub only : (place : ℕ) → Contains new place → (place < length states) × Contains old (slice_index_or states place 0)
  pub kept : (q : ℕ) → Contains old q → Contains states q → (place : ℕ) × Contains new place × IsPlaceOf states place q

-- new has the places of those of the numbers that are in the list as its start states, and is as old in everything else
pub record AddsPlacedStarts (states numbers : List ℕ) (old new : NondeterministicAutomaton) : Type 0 where
  pub same_letters : new.letters ≡ old.letters
  pub same_states : new.states ≡ old.states
  pub placed : HasPlaces states numbers new.starts

-- new has those of the edges of old that lead to states of the list, with places as their targets
pub record HasPlacedEdges (states : List ℕ) (old new : List (Option ℕ × ℕ)) : Type 0 where
  pub only : (label : Option ℕ) (place : ℕ) → Contains new (label, place) → (place < length states) × Contains old (label, slice_index_or states place 0)
  pub kept : (label : Option ℕ) (q : ℕ) → Contains old (label, q) → Contains states q → (place : ℕ) × Contains new (label, place) × IsPlaceOf states place q

-- the letters of the edges are less than the number
abbrev pub HasLetters : ℕ → List (Option ℕ × ℕ) → Type 0
HasLetters letters edges = All (λ (edge : Option ℕ × ℕ). IfSome edge.0 (λ a. a < letters)) edges

-- new has such edges at the end of the place's, and is as old in everything else
pub record AddsPlaced (states : List ℕ) (place : ℕ) (edges : List (Option ℕ × ℕ)) (old new : NondeterministicAutomaton) : Type 0 where
  pub added : List (Option ℕ × ℕ)
  pub adds : AddsEdges place added old new
  pub placed : HasPlacedEdges states edges added

-- the states of the list without their edges, none of them a start state
abbrev pub states_of : NondeterministicAutomaton → List ℕ → NondeterministicAutomaton
states_of n states = record {
  letters = n.letters;
  starts = [];
  states = map (λ q. record { accepting = is_accepting n.states q; edges = [] }) states;
}

-- part has the states of the list, with the edges among them of the first ones; the others have none yet
pub record IsPartBelow (n : NondeterministicAutomaton) (states : List ℕ) (next : ℕ) (part : NondeterministicAutomaton) : Type 0 where
  pub same_letters : part.letters ≡ n.letters
  pub size : length part.states ≡ length states
  pub acceptance : (place : ℕ) → place < length states → is_accepting part.states place ≡ is_accepting n.states (slice_index_or states place 0)
  pub starts : HasPlaces states n.starts part.starts
  pub done : (place : ℕ) → place < next → HasPlacedEdges states (edges_of n.states (slice_index_or states place 0)) (edges_of part.states place)
  pub later : (place : ℕ) → next ≤ place → edges_of part.states place ≡ []

-- part has the states of the list, with the edges and start states among them
abbrev pub IsPart : NondeterministicAutomaton → List ℕ → NondeterministicAutomaton → Type 0
IsPart n states part = IsPartBelow n states (length states) part

-- each of these has a flag, and those below the bound whose flag is false are among them
pub record AreUnflaggedBelow (flags : List Bool) (bound : ℕ) (states : List ℕ) : Type 0 where
  pub within : All (λ q. q < length flags) states
  pub complete : (q : ℕ) → q < bound → slice_index_or flags q false ≡ false → Contains states q

abbrev pub AreUnflagged : List Bool → List ℕ → Type 0
AreUnflagged flags states = AreUnflaggedBelow flags (length flags) states
