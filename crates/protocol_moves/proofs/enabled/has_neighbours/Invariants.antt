use Rattle.std.proofs.Common.{◌≡◌, ◌<◌, ◌+◌, ℕ, false}
use Rattle.protocol_moves.specs.private.Gathering.{can_change_two}
use Rattle.protocol_moves.proofs.enabled.has_neighbours.Given as goal

-- no pair that ends before i can change
abbrev pub invariant-neighbours : goal.invariant-neighbours
invariant-neighbours l = (j : ℕ) → j + 1 < l.i → can_change_two l.a l.b l.list j (j + 1) ≡ false
