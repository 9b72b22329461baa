use Rattle.minimise.proofs.FoundMoves.{IsFinding}
use Rattle.minimise.proofs.splitters.put_moves.Given as goal

abbrev pub invariant-states : goal.invariant-states
invariant-states l = IsFinding l.incoming l.classes l.class l.states l.fn.found.items l.found.items l.state-index
