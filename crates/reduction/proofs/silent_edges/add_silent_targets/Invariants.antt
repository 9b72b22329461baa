use Rattle.std.proofs.Common.{None}
use Rattle.word_automata.proofs.ForCallers.{AddsSomeTargets}
use Rattle.reduction.proofs.silent_edges.add_silent_targets.Given as goal

abbrev pub invariant-edges : goal.invariant-edges
invariant-edges l = AddsSomeTargets l.edges None l.fn.reached.items l.reached.items l.letter-index
