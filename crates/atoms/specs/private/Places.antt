-- Sets over the places of the states that are used: those that accept or have an edge. The others accept nothing.
use Rattle.std.specs.Prelude.{◌≡◌, ◌⊎◌, ◌<◌, ℕ, suc, List, Option, None, Some, Contains, IsTrue, length, slice_index}
use Rattle.word_automata.specs.Path.{edges_of, is_accepting}
use Rattle.word_automata.specs.Nondeterministic.{NondeterministicAutomaton}
use Rattle.word_automata.specs.StateSets.{AreStates}
use Rattle.bit_set.specs.Bits.{Has}
use Rattle.atoms.specs.private.Adding.{IsListed}

-- the number of a letter: one more than it, and 0 for none
abbrev pub label_number : Option ℕ → ℕ
label_number None = 0
label_number (Some a) = suc a

-- the state accepts or has an edge
abbrev pub IsUsed : NondeterministicAutomaton → ℕ → Type 0
IsUsed n q = IsTrue (is_accepting n.states q) ⊎ ((edge : Option ℕ × ℕ) × Contains (edges_of n.states q) edge)

-- each of these is a state, and each used state below the bound is one of these
pub record AreUsedBelow (n : NondeterministicAutomaton) (bound : ℕ) (used : List ℕ) : Type 0 where
  pub states : AreStates n used
  pub complete : (q : ℕ) → q < bound → IsUsed n q → Contains used q

-- each of these is a state, and each used state is one of these
abbrev pub AreUsed : NondeterministicAutomaton → List ℕ → Type 0
AreUsed n used = AreUsedBelow n (length n.states) used

-- the place is one of the state
abbrev pub IsPlaceOf : List ℕ → ℕ → ℕ → Type 0
IsPlaceOf used place q = (place < length used) × (slice_index used place ≡ q)

-- the set has a place of the state
abbrev pub HoldsState : List ℕ → List ℕ → ℕ → Type 0
HoldsState used set q = (place : ℕ) × IsPlaceOf used place q × Has set place

-- one of the edges leads to the state, and the entry is the number of its letter with the place
abbrev pub IsEntryOf : List (Option ℕ × ℕ) → ℕ → ℕ → ℕ × ℕ → Type 0
IsEntryOf edges place to entry = (label : Option ℕ) × Contains edges (label, to) × (entry ≡ (label_number label, place))

-- the lists have, for each state, an entry for each edge to it from one of the first places
pub record AreTurnedBelow (n : NondeterministicAutomaton) (used : List ℕ) (bound : ℕ) (into : List (List (ℕ × ℕ))) : Type 0 where
  pub count : length into ≡ length n.states
  pub complete : (place to : ℕ) (label : Option ℕ) → place < bound → Contains (edges_of n.states (slice_index used place)) (label, to)
      → IsListed into to (label_number label, place)
  pub sound : (to : ℕ) (entry : ℕ × ℕ) → IsListed into to entry
      → (entry.1 < bound) × IsEntryOf (edges_of n.states (slice_index used entry.1)) entry.1 to entry

abbrev pub AreTurned : NondeterministicAutomaton → List ℕ → List (List (ℕ × ℕ)) → Type 0
AreTurned n used into = AreTurnedBelow n used (length used) into

-- an edge with a letter of this number leads from the source's place to the place
abbrev pub IsSource : List (List (ℕ × ℕ)) → List ℕ → ℕ → ℕ → ℕ → Type 0
IsSource into used place number source = (place < length used) × IsListed into (slice_index used place) (number, source)

-- it leads to one of the places of the set
abbrev pub LeadsInto : List (List (ℕ × ℕ)) → List ℕ → List ℕ → ℕ → ℕ → Type 0
LeadsInto into used set number source = (place : ℕ) × Has set place × IsSource into used place number source

-- the state at the place accepts
abbrev pub AcceptsAt : NondeterministicAutomaton → List ℕ → ℕ → Type 0
AcceptsAt n used place = (place < length used) × IsTrue (is_accepting n.states (slice_index used place))
