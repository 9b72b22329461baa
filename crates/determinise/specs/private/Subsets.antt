-- Sets of states of a nondeterministic automaton, and the moves that lead out of them.
use Rattle.std.specs.Prelude.{◌≡◌, ◌↔◌, ◌+◌, ◌*◌, ◌%◌, ◌<◌, ◌≤◌, ℕ, Bool, true, false, List, Option, None, Some, Contains, length, slice_index_or}
use Rattle.std.specs.List.{filter_map, flat_map}
use Rattle.word_automata.specs.Path.{edges_of}
use Rattle.word_automata.specs.Nondeterministic.{NondeterministicAutomaton, AcceptsFromAny}
use Rattle.word_automata.specs.StateSets.{AreStates, IsClosure}
use Rattle.bit_subsets.specs.Subsets.{IsPlain}

-- the set that moves without a letter reach from the states
pub record IsSubsetFrom (n : NondeterministicAutomaton) (from subset : List ℕ) : Type 0 where
  pub states : AreStates n subset
  pub closure : IsClosure n from subset

-- the set that moves without a letter reach from some states, which accept the same words as the targets
pub record LeadsTo (n : NondeterministicAutomaton) (targets subset : List ℕ) : Type 0 where
  pub kept : List ℕ
  pub same_words : (w : List ℕ) → AcceptsFromAny n targets w ↔ AcceptsFromAny n kept w
  pub from : IsSubsetFrom n kept subset

-- a state whose flag is false has no edge without a letter
abbrev pub ArePlainWhereFalse : NondeterministicAutomaton → List Bool → Type 0
ArePlainWhereFalse n flags = (p : ℕ) → slice_index_or flags p true ≡ false → IsPlain n p

-- the move of an edge with a letter: the letter and the target
abbrev pub lettered_move : Option ℕ × ℕ → Option (ℕ × ℕ)
lettered_move edge = elim edge.0 [ None ↦ None | Some a ↦ Some (a, edge.1) ]

-- the moves out of the states
abbrev pub moves_from : NondeterministicAutomaton → List ℕ → List (ℕ × ℕ)
moves_from n states = flat_map (λ p. filter_map lettered_move (edges_of n.states p)) states

-- the letter above the last 32 bits of the target
abbrev pub order_key : ℕ × ℕ → ℕ
order_key move = move.0 * 4294967296 + move.1 % 4294967296

-- the letter of the move at place k
abbrev pub letter_of : List (ℕ × ℕ) → ℕ → ℕ
letter_of moves k = let move = slice_index_or moves k (0, 0) in move.0

-- letters do not decrease
abbrev pub HasOrderedLetters : List (ℕ × ℕ) → Type 0
HasOrderedLetters moves = (k : ℕ) → k + 1 < length moves → letter_of moves k ≤ letter_of moves (k + 1)

-- from place at on, the moves before place end have one letter, and those from there on have greater ones
pub record IsRun (moves : List (ℕ × ℕ)) (at end : ℕ) : Type 0 where
  pub some : at < end
  pub within : end ≤ length moves
  pub same : (k : ℕ) → at ≤ k → k < end → letter_of moves k ≡ letter_of moves at
  pub later : (k : ℕ) → end ≤ k → k < length moves → letter_of moves at < letter_of moves k

-- the same moves, by letters that do not decrease
pub record AreOrderedMoves (n : NondeterministicAutomaton) (states : List ℕ) (moves : List (ℕ × ℕ)) : Type 0 where
  pub to : (move : ℕ × ℕ) → Contains (moves_from n states) move → Contains moves move
  pub from : (move : ℕ × ℕ) → Contains moves move → Contains (moves_from n states) move
  pub ordered : HasOrderedLetters moves
