use Rattle.reduction.specs.private.SilentMoves.{IsFlagged}
use Rattle.reduction.proofs.silent_edges.flagged_states.Given as goal

abbrev pub invariant-states : goal.invariant-states
invariant-states l = IsFlagged l.automaton l.builder l.state
