use Rattle.std.proofs.Common.{take}
use Rattle.reduction.specs.private.SilentMoves.{AreMovesOf}
use Rattle.reduction.proofs.silent_edges.moves_of.Given as goal

abbrev pub invariant-states : goal.invariant-states
invariant-states l = AreMovesOf l.automaton (take l.state-index l.states) l.moves.items
