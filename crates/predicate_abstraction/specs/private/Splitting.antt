-- Blocks and classes of states that are split.
use Rattle.std.specs.Prelude.{◌≡◌, ◌↔◌, ◌<◌, ◌≤◌, ℕ, List, [], ◌∷◌, ◌++◌, Contains, length, slice_index}
use Rattle.word_automata.specs.Automaton.{Automaton}
use Rattle.abstraction.specs.Merging.{AreClasses}
use Rattle.abstraction.specs.Partitions.{AreNumbers}
use Rattle.predicate_abstraction.specs.Predicates.{SharesWord, MeetSame}
use Rattle.predicate_abstraction.specs.private.Pairs.{Pairs}

-- states stay in one class where they share words with the same states of b
pub record IsSplit (a b : Automaton) (classes finer : List ℕ) : Type 0 where
  pub numbers : AreNumbers (length a.states) finer
  pub apart : (p q : ℕ) → p < length a.states → q < length a.states
      → (slice_index finer p ≡ slice_index finer q)
      ↔ ((slice_index classes p ≡ slice_index classes q) × ((s : ℕ) → s < length b.states → SharesWord a p b s ↔ SharesWord a q b s))

-- both columns have the row, or neither
abbrev pub HaveSame : Pairs → ℕ → ℕ → ℕ → Type 0
HaveSame set row p q = Contains set.pairs (row, p) ↔ Contains set.pairs (row, q)

-- they have the same rows from the first one on and before the end
pub record HaveSameRows (set : Pairs) (first end p q : ℕ) : Type 0 where
  pub same : (row : ℕ) → first ≤ row → row < end → row < set.rows → HaveSame set row p q

-- columns stay in one class where they have the same rows from the first one on and before the end
pub record IsSplitByRows (set : Pairs) (first end : ℕ) (classes finer : List ℕ) : Type 0 where
  pub numbers : AreNumbers set.columns finer
  pub apart : (p q : ℕ) → p < set.columns → q < set.columns
      → (slice_index finer p ≡ slice_index finer q)
      ↔ ((slice_index classes p ≡ slice_index classes q) × ((row : ℕ) → first ≤ row → row < end → row < set.rows → HaveSame set row p q))

-- classes by predicate automata: states are in one class where they share words with the same states of each
pub record AreClassesBy (predicates : List Automaton) (a : Automaton) (classes : List ℕ) : Type 0 where
  pub numbers : AreNumbers (length a.states) classes
  pub apart : (p q : ℕ) → p < length a.states → q < length a.states → (slice_index classes p ≡ slice_index classes q) ↔ MeetSame predicates a p q

-- classes by some automata, whatever numbers they have, to which one more leads
pub record AreClassesOfAllButLast (predicates : List Automaton) (a : Automaton) (classes : List ℕ) : Type 0 where
  pub others : List Automaton
  pub last : Automaton
  pub are : others ++ last ∷ [] ≡ predicates
  pub classes_are : AreClasses (MeetSame others a) (length a.states) classes

-- states are in one class of both lists exactly where they are in one class of each
pub record AreCommon (a b both : List ℕ) : Type 0 where
  pub numbers : AreNumbers (length a) both
  pub apart : (p q : ℕ) → p < length a → q < length a
      → (slice_index both p ≡ slice_index both q) ↔ ((slice_index a p ≡ slice_index a q) × (slice_index b p ≡ slice_index b q))
