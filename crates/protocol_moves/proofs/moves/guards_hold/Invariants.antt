use Rattle.std.proofs.Common.{◌≡◌, drop}
use Rattle.protocol_moves.specs.private.Extents.{all_hold}
use Rattle.protocol_moves.proofs.moves.guards_hold.Given as goal

-- whether all guards hold is decided by those that are left
abbrev pub invariant-guards : goal.invariant-guards
invariant-guards l = all_hold l.guards l.extents l.i ≡ all_hold (drop l.k l.guards) (drop l.k l.extents) l.i
