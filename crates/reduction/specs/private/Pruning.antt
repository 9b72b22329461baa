-- Edges that others match.
use Rattle.std.specs.Prelude.{ℕ, List, Option, Contains}
use Rattle.reduction.specs.Simulation.{AreMatched}

-- new has some of the edges of old, which match all of them
pub record DropsMatched (pairs : List (ℕ × ℕ)) (old new : List (Option ℕ × ℕ)) : Type 0 where
  pub only : (edge : Option ℕ × ℕ) → Contains new edge → Contains old edge
  pub matched : AreMatched pairs old new
