use Rattle.protocol_moves.specs.private.Extents.{changes}
use Rattle.protocol_moves.proofs.ExtentLemmas.{IsExtentTo}
use Rattle.protocol_moves.proofs.moves.change_extent.Given as goal

abbrev pub invariant-positions : goal.invariant-positions
invariant-positions l = IsExtentTo (changes l.table l.old l.new) l.i l.extent.first l.extent.last
