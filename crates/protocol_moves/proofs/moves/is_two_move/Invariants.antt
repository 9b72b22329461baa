use Rattle.std.proofs.Common.{◌≡◌, drop}
use Rattle.protocol_moves.specs.private.Extents.{is_two_changes}
use Rattle.protocol_moves.proofs.TwoMove.{is_left_over}
use Rattle.protocol_moves.proofs.moves.is_two_move.Given as goal

-- what has been met and what is left decide
abbrev pub invariant-positions : goal.invariant-positions
invariant-positions l =
    is_two_changes l.was.0 l.was.1 l.becomes.0 l.becomes.1 l.old l.new
    ≡ is_left_over l.was.0 l.was.1 l.becomes.0 l.becomes.1 l.none l.one l.other l.both (drop l.i l.old) (drop l.i l.new)
