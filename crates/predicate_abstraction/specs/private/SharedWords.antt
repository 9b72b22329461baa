-- The search for pairs of states that share a word.
use Rattle.std.specs.Prelude.{◌≡◌, ◌↔◌, ◌<◌, ◌≤◌, ℕ, List, Vec, Some, Contains, IsTrue, length, slice_get, slice_index_or}
use Rattle.std.specs.List.Sorted.{IsNonDecreasingBy}
use Rattle.word_automata.specs.Path.{edges_of, is_accepting}
use Rattle.word_automata.specs.Automaton.{Automaton, IsValid}
use Rattle.predicate_abstraction.specs.Predicates.{SharesWord}
use Rattle.predicate_abstraction.specs.private.Pairs.{Pairs}

-- the pairs are those of a state of a and one of b that share a word
pub record AreShared (a b : Automaton) (set : Pairs) : Type 0 where
  pub rows : set.rows ≡ length a.states
  pub columns : set.columns ≡ length b.states
  pub shared : (p s : ℕ) → Contains set.pairs (p, s) ↔ SharesWord a p b s

-- states that are accepting share a word; pairs share a word; and with each of the first pairs those that lead to it are there
pub record SharesWords (a b : Automaton) (set : Pairs) (next : ℕ) : Type 0 where
  pub rows : set.rows ≡ length a.states
  pub columns : set.columns ≡ length b.states
  pub within : next ≤ length set.pairs
  pub sound : (p s : ℕ) → Contains set.pairs (p, s) → SharesWord a p b s
  pub accepting : (p s : ℕ) → IsTrue (is_accepting a.states p) → IsTrue (is_accepting b.states s) → Contains set.pairs (p, s)
  pub led : (k letter p s : ℕ) → k < next → Contains (edges_of a.states p) (letter, (slice_index_or set.pairs k (0, 0)).0)
      → Contains (edges_of b.states s) (letter, (slice_index_or set.pairs k (0, 0)).1) → Contains set.pairs (p, s)

-- a pair of the row and an accepting state of b before i
abbrev pub IsAcceptingIn : Automaton → ℕ → ℕ → ℕ × ℕ → Type 0
IsAcceptingIn b row i pair = (pair.0 ≡ row) × (pair.1 < i) × IsTrue (is_accepting b.states pair.1)

-- a pair of accepting states, that of a before i
abbrev pub AreAccepting : Automaton → Automaton → ℕ → ℕ × ℕ → Type 0
AreAccepting a b i pair = (pair.0 < i) × IsTrue (is_accepting a.states pair.0) × (pair.1 < length b.states) × IsTrue (is_accepting b.states pair.1)

-- the edges before the place have smaller letters, and those from there on have the letter or greater ones
pub record IsPlaceOf (letter : ℕ) (edges : List (ℕ × ℕ)) (at : ℕ) : Type 0 where
  pub less : (k : ℕ) → k < at → (slice_index_or edges k (0, 0)).0 < letter
  pub rest : (k : ℕ) → at ≤ k → k < length edges → letter ≤ (slice_index_or edges k (0, 0)).0

-- a pair of the row and the source of an edge with the letter
abbrev pub IsSource : ℕ → ℕ → List (ℕ × ℕ) → ℕ × ℕ → Type 0
IsSource row letter edges pair = (pair.0 ≡ row) × Contains edges (letter, pair.1)

-- a pair of sources of edges with the same letter
abbrev pub AreSources : List (ℕ × ℕ) → List (ℕ × ℕ) → ℕ × ℕ → Type 0
AreSources into_a into_b pair = (letter : ℕ) × Contains into_a (letter, pair.0) × Contains into_b (letter, pair.1)

-- the moves are the letters and sources of the edges into the state, sorted by letters
pub record AreEdgesInto (a : Automaton) (q : ℕ) (moves : List (ℕ × ℕ)) : Type 0 where
  pub same : (move : ℕ × ℕ) → Contains moves move ↔ Contains (edges_of a.states move.1) (move.0, q)
  pub ordered : IsNonDecreasingBy (λ move. move.0) moves

-- a is valid, and the lists are those of the edges into its first n states
pub record AreEdgesByTarget {A : Type 0} (a : Automaton) (lists : List (Vec (ℕ × ℕ) A)) (n : ℕ) : Type 0 where
  pub valid : IsValid a
  pub count : length lists ≡ n
  pub each : (q : ℕ) (list : Vec (ℕ × ℕ) A) → slice_get lists q ≡ Some list → AreEdgesInto a q list.items
