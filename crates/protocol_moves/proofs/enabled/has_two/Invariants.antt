use Rattle.std.proofs.Common.{◌≡◌, ◌<◌, ℕ, false, length}
use Rattle.protocol_moves.specs.private.Gathering.{some_below, can_change_two}
use Rattle.protocol_moves.proofs.enabled.has_two.Given as goal

-- no position before i has a partner
abbrev pub invariant-positions : goal.invariant-positions
invariant-positions l = (k : ℕ) → k < l.i → some_below (can_change_two l.a l.b l.list k) (length l.list) ≡ false
