use Rattle.std.proofs.Common.{◌-◌, ◌^◌}
use Rattle.word_automata.proofs.ForCallers.{IsPartialClosure}
use Rattle.determinise.proofs.subset.close.Given as goal

abbrev pub invariant-states : goal.invariant-states
invariant-states l = IsPartialClosure l.automaton l.fn.set.keys l.set.keys l.next

abbrev pub decreases-states : goal.decreases-states
decreases-states l = 2 ^ 64 - l.next
