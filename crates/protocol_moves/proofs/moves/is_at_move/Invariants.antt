use Rattle.std.proofs.Common.{◌≡◌, ◌<◌, ℕ, false}
use Rattle.protocol_moves.specs.private.Extents.{is_at}
use Rattle.protocol_moves.proofs.moves.is_at_move.Given as goal

-- no position before i is the moving one
abbrev pub invariant-positions : goal.invariant-positions
invariant-positions l = (j : ℕ) → j < l.i → is_at l.change.0 l.change.1 l.guards l.table l.old l.new j ≡ false
