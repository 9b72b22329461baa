-- Classes that are split by the states from which a letter leads to a class.
use Rattle.std.specs.Prelude.{◌≡◌, ◌<◌, ◌≤◌, ◌⊎◌, ◌&&◌, ltb, eqb, ℕ, List, Vec, Some, Contains, length, slice_index, slice_index_or, slice_get, if◌then◌else◌}
use Rattle.word_automata.specs.Automaton.{Automaton}
use Rattle.exploration.specs.Incoming.{Chains, IsInto}
use Rattle.minimise.specs.private.Rounds.{AreApart, AreToldApart}

-- what leads into the states of the list that are in the class is added to the moves
pub record AddsMovesOf (chains : Chains) (classes : List ℕ) (class : ℕ) (states : List ℕ) (old new : List (ℕ × ℕ)) : Type 0 where
  pub added : (q : ℕ) (move : ℕ × ℕ) → Contains states q → slice_index classes q ≡ class → IsInto chains q move → Contains new move
  pub only : (move : ℕ × ℕ) → Contains new move → Contains old move ⊎ ((q : ℕ) × (slice_index classes q ≡ class) × IsInto chains q move)

-- the moves are those that lead into the class, or there are none
pub record AreMovesInto (chains : Chains) (classes : List ℕ) (class : ℕ) (moves : List (ℕ × ℕ)) : Type 0 where
  pub some : (move : ℕ × ℕ) → Contains moves move → class ≡ 0 → ⊥
  pub complete : (move other : ℕ × ℕ) (q : ℕ) → Contains moves other → slice_index classes q ≡ class → IsInto chains q move
      → Contains moves move
  pub sound : (move : ℕ × ℕ) → Contains moves move → (q : ℕ) × (slice_index classes q ≡ class) × IsInto chains q move

-- the state p is in the list of the class c
abbrev pub IsListed : {A : Type 0} → List (Vec ℕ A) → ℕ → ℕ → Type 0
IsListed {A} lists c p = (list : Vec ℕ A) × (slice_get lists c ≡ Some list) × Contains list.items p

-- each state is in the list of its class, unless it is class 0
abbrev pub AreListed : {A : Type 0} → List ℕ → List (Vec ℕ A) → Type 0
AreListed classes lists = (q : ℕ) → (slice_index classes q ≡ 0) ⊎ IsListed lists (slice_index classes q) q

-- states of the class stay in the list
abbrev pub KeepsMembers : List ℕ → ℕ → List ℕ → List ℕ → Type 0
KeepsMembers classes class old new = (q : ℕ) → Contains old q → slice_index classes q ≡ class → Contains new q

-- the letter and the state of the move at place k
abbrev pub letter_at : List (ℕ × ℕ) → ℕ → ℕ
letter_at moves k = (slice_index_or moves k (0, 0)).0

abbrev pub source_at : List (ℕ × ℕ) → ℕ → ℕ
source_at moves k = (slice_index_or moves k (0, 0)).1

-- letters do not decrease
abbrev pub HasOrderedLetters : List (ℕ × ℕ) → Type 0
HasOrderedLetters moves = (i j : ℕ) → i ≤ j → j < length moves → letter_at moves i ≤ letter_at moves j

-- from place at on, the moves before place end have one letter, and those from there on have greater ones
pub record IsRun (moves : List (ℕ × ℕ)) (at end : ℕ) : Type 0 where
  pub some : at < end
  pub within : end ≤ length moves
  pub same : (k : ℕ) → at ≤ k → k < end → letter_at moves k ≡ letter_at moves at
  pub later : (k : ℕ) → end ≤ k → k < length moves → letter_at moves at < letter_at moves k

-- states of the automaton that have a move under a letter are told apart from those that have none
pub record IsSaturated (m : Automaton) (moves : List (ℕ × ℕ)) : Type 0 where
  pub states : (move : ℕ × ℕ) → Contains moves move → move.1 < length m.states
  pub apart : (a p q : ℕ) → Contains moves (a, p) → (Contains moves (a, q) → ⊥) → AreApart m p q

-- the state is the source of one of the first i moves
abbrev pub IsSource : List (ℕ × ℕ) → ℕ → ℕ → Type 0
IsSource moves i p = (k : ℕ) × (k < i) × (source_at moves k ≡ p)

-- the sources of the moves are states of the automaton, and told apart from states that are none
pub record AreSources (m : Automaton) (moves : List (ℕ × ℕ)) : Type 0 where
  pub states : (k : ℕ) → k < length moves → source_at moves k < length m.states
  pub apart : (p q : ℕ) → IsSource moves (length moves) p → (IsSource moves (length moves) q → ⊥) → AreApart m p q

-- the classes stay told apart, for each automaton that meets the condition
abbrev pub SplitsSoundly : (Automaton → Type 0) → List ℕ → List ℕ → Type 0
SplitsSoundly condition old new = (m : Automaton) → condition m → AreToldApart m old → AreToldApart m new

-- the class to which sources of the class go: its target, where that is below the count and its own target
abbrev pub target_of : List ℕ → ℕ → ℕ → ℕ
target_of targets count class =
    let target = slice_index targets class in
    if ltb target count && eqb (slice_index targets target) target then target else class

-- sources of the first i moves that are states have gone to the targets of their classes, and the other states are where they were
pub record AreMovedBefore (target : ℕ → ℕ) (moves : List (ℕ × ℕ)) (old new : List ℕ) (i : ℕ) : Type 0 where
  pub count : length new ≡ length old
  pub each : (q : ℕ) → q < length old → (IsSource moves i q × (slice_index new q ≡ target (slice_index old q))) ⊎ ((IsSource moves i q → ⊥) × (slice_index new q ≡ slice_index old q))

abbrev pub AreMoved : (ℕ → ℕ) → List (ℕ × ℕ) → List ℕ → List ℕ → Type 0
AreMoved target moves old new = AreMovedBefore target moves old new (length moves)
