-- The sets of states from which words lead into a state, and the automaton that has them as its states.
use Rattle.std.specs.Prelude.{◌≡◌, ◌↔◌, ◌⊎◌, ◌<◌, ◌≤◌, ◌++◌, ℕ, List, Vec, [], ◌∷◌, true, None, Some, IsTrue, Contains, length, reverse, slice_get}
use Rattle.std.specs.Prelude.{slice_index_or}
use Rattle.word_automata.specs.Path.{is_accepting}
use Rattle.word_automata.specs.Automaton.{Automaton, target, accepts_from}
use Rattle.word_automata.specs.Building.{with_state}
use Rattle.exploration.specs.Incoming.{Chains, IsInto}
use Rattle.past_abstraction.specs.Pasts.{IsInPast}
use Rattle.past_abstraction.specs.private.WordSets.{IsListed}

-- the letter leads from p to a state of the set
abbrev pub LeadsInto : Chains → List ℕ → ℕ → ℕ → Type 0
LeadsInto into set letter p = (q : ℕ) × Contains set q × IsInto into q (letter, p)

-- the preimage has the states from which the letter leads to a state of the set
abbrev pub IsPreimage : Chains → List ℕ → ℕ → List ℕ → Type 0
IsPreimage into set letter preimage = (p : ℕ) → Contains preimage p ↔ LeadsInto into set letter p

-- each edge has one of so many letters
abbrev pub AreInAlphabet : Chains → ℕ → Type 0
AreInAlphabet into letters = (q : ℕ) (edge : ℕ × ℕ) → IsInto into q edge → edge.0 < letters

-- the list of each letter has the states from which it leads to a state of the set
abbrev pub ArePreimages : {A : Type 0} → Chains → List ℕ → List (Vec ℕ A) → Type 0
ArePreimages into set lists = (letter p : ℕ) → IsListed lists letter p ↔ LeadsInto into set letter p

-- all states accept, none has an edge, and each of so many stands for the set of it alone
pub record AreSingle (count letters : ℕ) (m : Automaton) (sets : List (List ℕ)) : Type 0 where
  pub same_letters : m.letters ≡ letters
  pub states : length m.states ≡ length sets
  pub count_is : length sets ≡ count
  pub accepting : (q : ℕ) → q < length sets → is_accepting m.states q ≡ true
  pub single : (q : ℕ) → q < length sets → slice_index_or sets q [] ≡ q ∷ []
  pub without : (q letter : ℕ) → target m q letter ≡ None

-- the edge of the state i with the letter comes before that of the state number with the letter at
abbrev pub IsBefore : ℕ → ℕ → ℕ → ℕ → Type 0
IsBefore i letter number at = (i < number) ⊎ ((i ≡ number) × (letter < at))

-- the states of m stand for the sets, none of which is empty, and accept; edges lead to preimages, and those before the edge of the state
-- number with the letter at are there, where the preimage has a state, and no others
pub record AreExpanded (into : Chains) (m : Automaton) (sets : List (List ℕ)) (number at : ℕ) : Type 0 where
  pub states : length m.states ≡ length sets
  pub accepting : (i : ℕ) → i < length sets → is_accepting m.states i ≡ true
  pub some : (i : ℕ) → i < length sets → (p : ℕ) × Contains (slice_index_or sets i []) p
  pub leads : (i letter j : ℕ) → target m i letter ≡ Some j
      → (j < length sets) × IsPreimage into (slice_index_or sets i []) letter (slice_index_or sets j [])
  pub complete : (i letter p : ℕ) → IsBefore i letter number at → target m i letter ≡ None
      → LeadsInto into (slice_index_or sets i []) letter p → ⊥
  pub without : (i letter : ℕ) → (IsBefore i letter number at → ⊥) → target m i letter ≡ None

-- the sets stay in their places, and so do the edges of the states before this one
pub record Continues (number : ℕ) (old new : Automaton) (old_sets new_sets : List (List ℕ)) : Type 0 where
  pub same_letters : new.letters ≡ old.letters
  pub begins : (more : List (List ℕ)) × (new_sets ≡ old_sets ++ more)
  pub same_targets : (i letter : ℕ) → i < number → target new i letter ≡ target old i letter

-- the set is that of the state with this number, which is there already, or comes last, without edges
pub record IsKnown (old new : Automaton) (old_sets new_sets : List (List ℕ)) (set : List ℕ) (number : ℕ) : Type 0 where
  pub same : new ≡ old
  pub same_sets : new_sets ≡ old_sets
  pub at : slice_get old_sets number ≡ Some set

pub record IsNew (old new : Automaton) (old_sets new_sets : List (List ℕ)) (set : List ℕ) (number : ℕ) : Type 0 where
  pub added : new ≡ with_state old true
  pub added_set : new_sets ≡ old_sets ++ set ∷ []
  pub last : number ≡ length old_sets

-- m has the states of a and maybe more, and accepts from each state of a the reversed words of at most so many letters that lead into it
pub record IsPastAutomaton (a : Automaton) (bound : ℕ) (m : Automaton) : Type 0 where
  pub states : length a.states ≤ length m.states
  pub accepted : (q : ℕ) (w : List ℕ) → q < length a.states → length w ≤ bound → IsTrue (accepts_from m q w) ↔ IsInPast a (reverse w) q
