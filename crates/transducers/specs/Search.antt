-- The positions of the search for a path that reads one word and writes another.
use Rattle.std.specs.Prelude.{◌≡◌, ℕ, ◌≤◌, List, ◌++◌, Some, IsTrue, ◌⊎◌, Contains, length, slice_get, drop}
use Rattle.word_automata.specs.Path.{is_accepting, spelled_one}
use Rattle.transducers.specs.declared.Label.{Label}
use Rattle.transducers.specs.declared.search.Position.{Position}
use Rattle.transducers.specs.Transducer.{Transducer}

-- the position is among those found
abbrev pub IsAmong : List Position → Position → Type 0
IsAmong found p = (k : ℕ) × (slice_get found k ≡ Some p)

-- positions found so far keep their places, each other one has the property
pub record Grows (Q : Position → Type 0) (old new : List Position) : Type 0 where
  pub stays : (k : ℕ) (p : Position) → slice_get old k ≡ Some p → slice_get new k ≡ Some p
  pub fresh : (k : ℕ) (p : Position) → slice_get new k ≡ Some p → IsAmong old p ⊎ Q p

-- the position is among those found, and nothing else is new
pub record Inserts (old new : List Position) (position : Position) : Type 0 where
  pub grows : Grows (λ p. p ≡ position) old new
  pub inserted : IsAmong new position

-- the edge leads from the position p to the position q: it reads and writes what lies between them
pub record Follows (u w : List ℕ) (p : Position) (edge : Label × ℕ) (q : Position) : Type 0 where
  pub reads : drop p.read u ≡ spelled_one edge.0.read ++ drop q.read u
  pub writes : drop p.written w ≡ spelled_one edge.0.write ++ drop q.written w
  pub target : q.state ≡ edge.1

-- the edge leads nowhere from the position: one of the words does not go on with its letter
abbrev pub IsBlocked : List ℕ → List ℕ → Position → Label × ℕ → Type 0
IsBlocked u w p edge =
    (u' w' : List ℕ) → drop p.read u ≡ spelled_one edge.0.read ++ u' → drop p.written w ≡ spelled_one edge.0.write ++ w' → ⊥

-- where the edge leads from the position, the search has been
abbrev pub IsFollowed : List ℕ → List ℕ → List Position → Position → Label × ℕ → Type 0
IsFollowed u w found p edge = IsBlocked u w p edge ⊎ ((q : Position) × Follows u w p edge q × IsAmong found q)

-- both words end at the position, in an accepting state
pub record IsEnd (t : Transducer) (u w : List ℕ) (p : Position) : Type 0 where
  pub read_all : length u ≤ p.read
  pub written_all : length w ≤ p.written
  pub accepts : IsTrue (is_accepting t.states p.state)

-- the positions of the start states, and no other
pub record AreStarts (starts : List ℕ) (found : List Position) : Type 0 where
  pub all : (q : ℕ) → Contains starts q → IsAmong found (record { read = 0; written = 0; state = q })
  pub only : (k : ℕ) (p : Position) → slice_get found k ≡ Some p → (p.read ≡ 0) × (p.written ≡ 0) × Contains starts p.state

-- one of the edges leads from the position p to the position q
pub record Leads (edges : List (Label × ℕ)) (u w : List ℕ) (p q : Position) : Type 0 where
  pub edge : Label × ℕ
  pub is_edge : Contains edges edge
  pub follows : Follows u w p edge q

-- every edge was followed from the position, and nothing else was found
pub record Expands (edges : List (Label × ℕ)) (u w : List ℕ) (p : Position) (old new : List Position) : Type 0 where
  pub grows : Grows (Leads edges u w p) old new
  pub followed : (edge : Label × ℕ) → Contains edges edge → IsFollowed u w new p edge
