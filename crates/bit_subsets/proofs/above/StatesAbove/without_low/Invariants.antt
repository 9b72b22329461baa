use Rattle.word_automata.specs.Nondeterministic.{NondeterministicAutomaton}
use Rattle.reduction.specs.Reduction.{KeepsStarts}
use Rattle.reduction.specs.Simulation.{AreIncluded}
use Rattle.bit_subsets.specs.Subsets.{members}
use Rattle.bit_subsets.proofs.above.StatesAbove.without_low.Given as goal

abbrev pub invariant-states : goal.invariant-states
invariant-states l = (n : NondeterministicAutomaton) → AreIncluded n l.self.pairs.items → KeepsStarts n (members l.fn.set) (members l.kept)
