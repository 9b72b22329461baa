use Rattle.reduction.specs.private.SilentMoves.{IsFreed}
use Rattle.reduction.proofs.silent_edges.without_silent.Given as goal

abbrev pub invariant-states : goal.invariant-states
invariant-states l = IsFreed l.automaton l.builder l.state
