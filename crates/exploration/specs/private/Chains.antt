-- Edges that are added to the chains of their targets.
use Rattle.std.specs.Prelude.{◌≡◌, ◌<◌, ◌⊎◌, ℕ, List, Contains, length}
use Rattle.exploration.specs.Incoming.{Link, linked, IsInto, AreChained}

-- the edges that leave the state are added to the chains of their targets
pub record AddsEdges (last : List ℕ) (edges : List Link) (more : List ℕ) (longer : List Link) (leaving : List (ℕ × ℕ)) (state : ℕ)
    : Type 0 where
  pub count : length more ≡ length last
  pub chained : AreChained more longer
  pub kept : (q : ℕ) (move : ℕ × ℕ) → IsInto (linked last edges) q move → IsInto (linked more longer) q move
  pub added : (edge : ℕ × ℕ) → Contains leaving edge → edge.1 < length last → IsInto (linked more longer) edge.1 (edge.0, state)
  pub only : (q : ℕ) (move : ℕ × ℕ) → IsInto (linked more longer) q move
      → IsInto (linked last edges) q move ⊎ ((move.1 ≡ state) × Contains leaving (move.0, q))
