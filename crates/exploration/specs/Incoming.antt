-- Edges of an automaton by the states that they lead to.
use Rattle.std.specs.Prelude.{◌≡◌, ◌≤◌, ◌⊎◌, ℕ, zero, suc, List, Contains, length, slice_index, slice_index_or}
use Rattle.word_automata.specs.Path.{edges_of}
use Rattle.word_automata.specs.Automaton.{Automaton, IsValid}

-- a letter with the state that an edge leaves, and the number of the edge before it into the same state
abbrev pub Link : Type 0
Link = (ℕ × ℕ) × ℕ

-- edges in chains by the states that they lead to: for each state the number of the last edge into it, 0 where there is none, and for
-- each edge its link
pub record Chains : Type 0 where
  pub last : List ℕ
  pub edges : List Link

abbrev pub linked : List ℕ → List Link → Chains
linked last edges = record { last = last; edges = edges }

-- the number of the edge before the one of this number, 0 where there is none
abbrev pub before : List Link → ℕ → ℕ
before edges zero = 0
before edges (suc k) = (slice_index_or edges k ((0, 0), 0)).1

-- the number of the edge so many steps before the one of this number
abbrev pub steps_before : List Link → ℕ → ℕ → ℕ
steps_before edges zero number = number
steps_before edges (suc n) number = steps_before edges n (before edges number)

-- the edge at place k is in the chain from the edge of this number
abbrev pub IsInChain : List Link → ℕ → ℕ → Type 0
IsInChain edges number k = (n : ℕ) × (steps_before edges n number ≡ suc k)

-- numbers of edges are at most their count, and an edge comes after the one before it
pub record AreChained (last : List ℕ) (edges : List Link) : Type 0 where
  pub within : (q : ℕ) → slice_index last q ≤ length edges
  pub descends : (k : ℕ) → before edges (suc k) ≤ k

-- the letter and the source belong to an edge in the chain of the state
abbrev pub IsInto : Chains → ℕ → ℕ × ℕ → Type 0
IsInto into q move = (k : ℕ) × IsInChain into.edges (slice_index into.last q) k × ((slice_index_or into.edges k ((0, 0), 0)).0 ≡ move)

-- the automaton is valid, and the chains have its edges, each in the chain of its target
pub record AreIncoming (m : Automaton) (into : Chains) : Type 0 where
  pub valid : IsValid m
  pub complete : (p a q : ℕ) → Contains (edges_of m.states p) (a, q) → IsInto into q (a, p)
  pub sound : (q : ℕ) (move : ℕ × ℕ) → IsInto into q move → Contains (edges_of m.states move.1) (move.0, q)

-- the letter and the source of each edge into the state are added to the moves
pub record AddsMoves (into : Chains) (q : ℕ) (old new : List (ℕ × ℕ)) : Type 0 where
  pub kept : (move : ℕ × ℕ) → Contains old move → Contains new move
  pub added : (move : ℕ × ℕ) → IsInto into q move → Contains new move
  pub only : (move : ℕ × ℕ) → Contains new move → Contains old move ⊎ IsInto into q move
