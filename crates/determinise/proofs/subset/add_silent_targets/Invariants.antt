use Rattle.std.proofs.Common.{None}
use Rattle.word_automata.proofs.ForCallers.{AddsSomeTargets}
use Rattle.determinise.proofs.subset.add_silent_targets.Given as goal

abbrev pub invariant-edges : goal.invariant-edges
invariant-edges l = AddsSomeTargets l.edges None l.fn.set.keys l.set.keys l.letter-index
