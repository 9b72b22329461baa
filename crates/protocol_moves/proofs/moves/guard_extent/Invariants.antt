use Rattle.std.proofs.Common.{map}
use Rattle.protocol_moves.specs.private.Extents.{is_hit}
use Rattle.protocol_moves.proofs.ExtentLemmas.{IsExtentTo}
use Rattle.protocol_moves.proofs.moves.guard_extent.Given as goal

abbrev pub invariant-positions : goal.invariant-positions
invariant-positions l = IsExtentTo (map (is_hit l.guard) l.list) l.i l.extent.first l.extent.last
