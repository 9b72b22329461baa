-- Classes of states, and how a round of refinement splits them. A state's class is one more than the least state in it; class 0 is
-- that of the states from which no word is accepted, and of the numbers that are no state.
use Rattle.std.specs.Prelude.{◌≡◌, ◌<◌, ◌≤◌, ◌⊎◌, ℕ, zero, suc, false, List, [], Option, None, Some, length, slice_index}
use Rattle.std.specs.List.{filter_map}
use Rattle.std.specs.Option.{option_map}
use Rattle.word_automata.specs.Path.{edges_of, is_accepting}
use Rattle.word_automata.specs.Automaton.{Automaton, target, accepts_from, IsValid}
use Rattle.exploration.specs.DeterministicSystem.{DeterministicSystem}
use Rattle.minimise.specs.Signatures.{Signature}

-- the least state of a class, none for class 0
abbrev pub least_state : ℕ → Option ℕ
least_state zero = None
least_state (suc r) = Some r

-- the class, unless it is class 0
abbrev pub live_class : ℕ → Option ℕ
live_class zero = None
live_class (suc c) = Some (suc c)

-- the letter of an edge and the class to which it leads, unless that is class 0
abbrev pub live_edge : List ℕ → ℕ × ℕ → Option (ℕ × ℕ)
live_edge classes edge = option_map (λ c. (edge.0, c)) (live_class (slice_index classes edge.1))

-- what the round compares the state by
abbrev pub signature_of : Automaton → List ℕ → ℕ → Signature
signature_of m classes q = record {
  class = slice_index classes q;
  accepting = is_accepting m.states q;
  edges = filter_map (live_edge classes) (edges_of m.states q);
}

-- the signature of states from which no word is accepted
abbrev pub no_word : Signature
no_word = record { class = 0; accepting = false; edges = [] }

-- the key has this class: 0 for the key none; else one more than the first state that has it, which is the state where it is new
pub record IsClassOfNone {K : Type 0} (none : K) (old new : K → Option ℕ) (key : K) (class : ℕ) : Type 0 where
  pub is_none : key ≡ none
  pub class_is : class ≡ 0
  pub same : (t : K) → new t ≡ old t

pub record IsKnownClass {K : Type 0} (none : K) (old new : K → Option ℕ) (key : K) (class : ℕ) : Type 0 where
  pub some : key ≡ none → ⊥
  pub known : old key ≡ Some class
  pub same : (t : K) → new t ≡ old t

pub record IsNewClass {K : Type 0} (none : K) (old new : K → Option ℕ) (key : K) (state class : ℕ) : Type 0 where
  pub some : key ≡ none → ⊥
  pub unknown : old key ≡ None
  pub class_is : class ≡ suc state
  pub added : new key ≡ Some (suc state)
  pub same : (t : K) → (key ≡ t → ⊥) → new t ≡ old t

abbrev pub FindsClass : {K : Type 0} → K → (K → Option ℕ) → (K → Option ℕ) → K → ℕ → ℕ → Type 0
FindsClass none old new key state class =
    IsClassOfNone none old new key class ⊎ (IsKnownClass none old new key class ⊎ IsNewClass none old new key state class)

-- the first n states are in one class exactly where they have one key
pub record AreGrouped {K : Type 0} (key : ℕ → K) (n : ℕ) (finer : List ℕ) : Type 0 where
  pub count : length finer ≡ n
  pub together : (p q : ℕ) → key p ≡ key q → slice_index finer p ≡ slice_index finer q
  pub apart : (p q : ℕ) → slice_index finer p ≡ slice_index finer q → key p ≡ key q
  pub least : (q r : ℕ) → slice_index finer q ≡ suc r → (r ≤ q) × (key r ≡ key q)

-- states are in one class of the finer list exactly where they have one signature by the coarser
abbrev pub IsSplit : Automaton → List ℕ → List ℕ → Type 0
IsSplit m classes finer = AreGrouped (signature_of m classes) (length m.states) finer

-- each class but 0 has its least state
abbrev pub HasLeastStates : List ℕ → Type 0
HasLeastStates classes = (q r : ℕ) → slice_index classes q ≡ suc r → (r ≤ q) × (slice_index classes r ≡ suc r)

-- states in different classes are told apart by some word, and each class but 0 has its least state
pub record AreCoarse (m : Automaton) (classes : List ℕ) : Type 0 where
  pub count : length classes ≡ length m.states
  pub told_apart : (p q : ℕ) → (slice_index classes p ≡ slice_index classes q → ⊥) → (w : List ℕ) × (accepts_from m p w ≡ accepts_from m q w → ⊥)
  pub least : HasLeastStates classes

-- and states of a valid automaton that are in the same class accept the same words
pub record AreLanguageClasses (m : Automaton) (classes : List ℕ) : Type 0 where
  pub valid : IsValid m
  pub coarse : AreCoarse m classes
  pub alike : (p q : ℕ) (w : List ℕ) → slice_index classes p ≡ slice_index classes q → accepts_from m p w ≡ accepts_from m q w

-- the system of the least states of the classes but 0, where a letter leads to the least state of the class that it leads to
abbrev pub quotient : Automaton → List ℕ → DeterministicSystem ℕ
quotient m classes = record {
  letters = m.letters;
  start = least_state (slice_index classes 0);
  step = λ q a. elim (target m q a) [ None ↦ None | Some r ↦ least_state (slice_index classes r) ];
  accepting = λ q. is_accepting m.states q;
}

-- a state of that system
pub record IsLeastState (m : Automaton) (classes : List ℕ) (q : ℕ) : Type 0 where
  pub within : q < length m.states
  pub own : slice_index classes q ≡ suc q
