use Rattle.std.proofs.Common.{◌++◌, drop}
use Rattle.word_automata.specs.Nondeterministic.{NondeterministicAutomaton}
use Rattle.reduction.specs.Reduction.{KeepsStarts}
use Rattle.reduction.specs.Simulation.{AreIncluded}
use Rattle.determinise.proofs.maximal.without_low.Given as goal

abbrev pub invariant-states : goal.invariant-states
invariant-states l = (n : NondeterministicAutomaton) → AreIncluded n l.pairs → KeepsStarts n l.states (l.kept.items ++ drop l.at l.states)
