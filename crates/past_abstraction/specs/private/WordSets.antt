-- The sets of states into which words lead, their images, and the blocks that they split.
use Rattle.std.specs.Prelude.{◌≡◌, ◌↔◌, ◌⊎◌, ◌<◌, ◌≤◌, ◌*◌, ◌++◌, ℕ, List, Vec, [], Some, Contains, length, slice_get, slice_index, slice_index_or}
use Rattle.word_automata.specs.Automaton.{Automaton, target, IsValid}
use Rattle.bit_set.specs.Bits.{Has}
use Rattle.past_abstraction.specs.Pasts.{IsInPast}

-- the letter leads from a state of the set to q
abbrev pub LeadsFrom : Automaton → List ℕ → ℕ → ℕ → Type 0
LeadsFrom a set letter q = (p : ℕ) × Contains set p × (target a p letter ≡ Some q)

-- the image has the states to which the letter leads from states of the set
abbrev pub IsImage : Automaton → List ℕ → ℕ → List ℕ → Type 0
IsImage a set letter image = (q : ℕ) → Contains image q ↔ LeadsFrom a set letter q

-- the list of the letter has the state
abbrev pub IsListed : {A : Type 0} → List (Vec ℕ A) → ℕ → ℕ → Type 0
IsListed {A} lists letter q = (list : Vec ℕ A) × (slice_get lists letter ≡ Some list) × Contains list.items q

-- there is a list for each letter, and none of them has a state
pub record HasEmptyLists {A : Type 0} (letters : ℕ) (lists : List (Vec ℕ A)) : Type 0 where
  pub count : length lists ≡ letters
  pub empty : (letter q : ℕ) → IsListed lists letter q → ⊥

-- new has what old has and the targets of the edges, each a letter and a target, in the lists of their letters
pub record PutsEdges {A : Type 0} (edges : List (ℕ × ℕ)) (old new : List (Vec ℕ A)) : Type 0 where
  pub count : length new ≡ length old
  pub listed : (letter q : ℕ) → IsListed new letter q ↔ (IsListed old letter q ⊎ Contains edges (letter, q))

-- the list of each letter has the states to which it leads from states of the set
abbrev pub AreImages : {A : Type 0} → Automaton → List ℕ → List (Vec ℕ A) → Type 0
AreImages a set lists = (letter q : ℕ) → IsListed lists letter q ↔ LeadsFrom a set letter q

-- the lists have the same states
abbrev pub HaveSameStates : List ℕ → List ℕ → Type 0
HaveSameStates states others = (q : ℕ) → Contains others q ↔ Contains states q

-- no number is marked, and there is room for marks of those below the bound
pub record HasNoMarks (bound : ℕ) (marks : List ℕ) : Type 0 where
  pub none : (q : ℕ) → Has marks q → ⊥
  pub room : bound ≤ 64 * length marks

-- the set has the states into which the word leads
abbrev pub IsSetOf : Automaton → List ℕ → List ℕ → Type 0
IsSetOf a w set = (q : ℕ) → Contains set q ↔ IsInPast a w q

-- each of the sets has both states or neither
abbrev pub AreInSame : List (List ℕ) → ℕ → ℕ → Type 0
AreInSame sets p q = (set : List ℕ) → Contains sets set → Contains set p ↔ Contains set q

-- a is valid, and each of its states has a block: states are in one block exactly where they are in the same sets
pub record AreBlocksOf (a : Automaton) (sets : List (List ℕ)) (blocks : List ℕ) : Type 0 where
  pub valid : IsValid a
  pub count : length blocks ≡ length a.states
  pub in_range : (set : List ℕ) (p : ℕ) → Contains sets set → Contains set p → p < length a.states
  pub apart : (p q : ℕ) → p < length a.states → q < length a.states → (slice_index blocks p ≡ slice_index blocks q) ↔ AreInSame sets p q

-- new has what old has in the same places, the set, and no others
pub record AddsSet (set : List ℕ) (old new : List (List ℕ)) : Type 0 where
  pub begins : (more : List (List ℕ)) × (new ≡ old ++ more)
  pub added : Contains new set
  pub only : (other : List ℕ) → Contains new other → Contains old other ⊎ (set ≡ other)

-- new has what old has in the same places, a set of these states where there are any, and no others
pub record AddsStates (states : List ℕ) (old new : List (List ℕ)) : Type 0 where
  pub begins : (more : List (List ℕ)) × (new ≡ old ++ more)
  pub added : (q : ℕ) → Contains states q → (set : List ℕ) × Contains new set × HaveSameStates states set
  pub only : (other : List ℕ) → Contains new other → Contains old other ⊎ HaveSameStates states other

-- where the letter leads from the set to a state, its image under the letter is one of the sets
abbrev pub HasImage : Automaton → List (List ℕ) → List ℕ → ℕ → Type 0
HasImage a sets set letter = (q : ℕ) → LeadsFrom a set letter q → (image : List ℕ) × Contains sets image × IsImage a set letter image

-- new has what old has in the same places, the images of the set under all letters that lead somewhere, and no others
pub record AddsImages (a : Automaton) (set : List ℕ) (old new : List (List ℕ)) : Type 0 where
  pub begins : (more : List (List ℕ)) × (new ≡ old ++ more)
  pub images : (letter : ℕ) → HasImage a new set letter
  pub only : (other : List ℕ) → Contains new other → Contains old other ⊎ ((letter : ℕ) × IsImage a set letter other)

-- new has what old has in the same places, the images of old's sets from the first one on and before the end, and no others
pub record AddsImagesOf (a : Automaton) (first end : ℕ) (old new : List (List ℕ)) : Type 0 where
  pub begins : (more : List (List ℕ)) × (new ≡ old ++ more)
  pub images : (i letter : ℕ) → first ≤ i → i < end → HasImage a new (slice_index_or old i []) letter
  pub only : (other : List ℕ) → Contains new other
      → Contains old other ⊎ ((set : List ℕ) × (letter : ℕ) × Contains old set × IsImage a set letter other)

-- the sets are those of words of at most so many letters, where they have a state; those before the first one have their images among them
pub record AreWordSets (a : Automaton) (bound first : ℕ) (sets : List (List ℕ)) : Type 0 where
  pub within : first ≤ length sets
  pub words : (set : List ℕ) → Contains sets set → (w : List ℕ) × (length w ≤ bound) × IsSetOf a w set
  pub sets_of_words : (w : List ℕ) (q : ℕ) → length w ≤ bound → IsInPast a w q → (set : List ℕ) × Contains sets set × IsSetOf a w set
  pub images : (i letter : ℕ) → i < first → HasImage a sets (slice_index_or sets i []) letter
