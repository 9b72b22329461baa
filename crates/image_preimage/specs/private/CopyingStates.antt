-- States from which a transducer writes what it reads.
use Rattle.std.specs.Prelude.{◌≡◌, ℕ, Bool, true, false, List, Contains, slice_index_or}
use Rattle.word_automata.specs.Path.{edges_of}
use Rattle.transducers.specs.declared.Label.{Label}
use Rattle.transducers.specs.Transducer.{Transducer, RelatesFrom}

-- the edge writes what it reads and leads to a state with the flag
abbrev pub IsCopyingEdge : List Bool → Label × ℕ → Type 0
IsCopyingEdge flags edge = (edge.0.read ≡ edge.0.write) × (slice_index_or flags edge.1 false ≡ true)

-- where the state has the flag, so do all its edges
abbrev pub IsCopyingAt : Transducer → List Bool → ℕ → Type 0
IsCopyingAt t flags p = slice_index_or flags p false ≡ true → (edge : Label × ℕ) → Contains (edges_of t.states p) edge → IsCopyingEdge flags edge

-- so do all states
abbrev pub AreCopying : Transducer → List Bool → Type 0
AreCopying t flags = (p : ℕ) → IsCopyingAt t flags p

-- from states with the flag the transducer relates each word to itself alone
abbrev pub AreIdentities : Transducer → List Bool → Type 0
AreIdentities t flags = (p : ℕ) → slice_index_or flags p false ≡ true → (u w : List ℕ) → RelatesFrom t p u w → u ≡ w
