use Rattle.std.proofs.Common.{◌≡◌, ◌<◌, ℕ, false}
use Rattle.protocol_moves.specs.private.Gathering.{can_change_at}
use Rattle.protocol_moves.proofs.enabled.has_start.Given as goal

-- no position before i can change
abbrev pub invariant-positions : goal.invariant-positions
invariant-positions l = (j : ℕ) → j < l.i → can_change_at l.from l.guards l.list j ≡ false
