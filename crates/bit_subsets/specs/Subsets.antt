-- Sets of states of a nondeterministic automaton, as lists and as sets of bits.
use Rattle.std.specs.Prelude.{◌==◌, ◌*◌, ◌/◌, ◌%◌, ◌++◌, ℕ, zero, suc, List, [], ◌∷◌, None, Contains, length, slice_index, if◌then◌else◌}
use Rattle.std.specs.Int.{bit_at}
use Rattle.word_automata.specs.Path.{edges_of}
use Rattle.word_automata.specs.Nondeterministic.{NondeterministicAutomaton, IsInRange}
use Rattle.word_automata.specs.StateSets.{AreStates, IsClosed}

-- a set of states out of which no move without a letter leads
pub record IsSubset (n : NondeterministicAutomaton) (subset : List ℕ) : Type 0 where
  pub in_range : IsInRange n
  pub states : AreStates n subset
  pub closed : IsClosed n subset

-- no edge without a letter leaves the state
abbrev pub IsPlain : NondeterministicAutomaton → ℕ → Type 0
IsPlain n p = (q : ℕ) → Contains (edges_of n.states p) (None, q) → ⊥

-- the numbers below the bound that the set has, in increasing order
unfoldable pub members_below : List ℕ → ℕ → List ℕ
members_below words zero = []
members_below words (suc k) = if bit_at (slice_index words (k / 64)) (k % 64) == 1 then members_below words k ++ k ∷ [] else members_below words k

-- all numbers that the set has
unfoldable pub members : List ℕ → List ℕ
members words = members_below words (64 * length words)
