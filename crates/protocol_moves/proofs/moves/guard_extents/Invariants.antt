use Rattle.std.proofs.Common.{◌≡◌, take, length}
use Rattle.protocol_moves.specs.private.Extents.{HaveExtents}
use Rattle.protocol_moves.proofs.moves.guard_extents.Given as goal

-- the guards before k have their extents
abbrev pub invariant-guards : goal.invariant-guards
invariant-guards l = HaveExtents (take l.k l.guards) l.extents l.list × (length l.extents ≡ 4)
