use Rattle.std.proofs.Common.{◌≡◌, ◌<◌, ◌+◌, ℕ, false}
use Rattle.protocol_moves.specs.private.Extents.{is_pair_at}
use Rattle.protocol_moves.proofs.moves.is_pair_move.Given as goal

-- no pair that ends before i is the moving one
abbrev pub invariant-neighbours : goal.invariant-neighbours
invariant-neighbours l = (j : ℕ) → j + 1 < l.i → is_pair_at l.was.0 l.was.1 l.becomes.0 l.becomes.1 l.old l.new j ≡ false
