use Rattle.reduction.specs.private.Copies.{IsReduced}
use Rattle.reduction.proofs.pruning.pruned.Given as goal

abbrev pub invariant-states : goal.invariant-states
invariant-states l = IsReduced l.automaton l.builder l.state
