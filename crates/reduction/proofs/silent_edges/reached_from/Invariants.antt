use Rattle.std.proofs.Common.{◌-◌, ◌^◌, [], ◌∷◌}
use Rattle.word_automata.proofs.ForCallers.{IsPartialClosure}
use Rattle.reduction.proofs.silent_edges.reached_from.Given as goal

abbrev pub invariant-reached : goal.invariant-reached
invariant-reached l = IsPartialClosure l.automaton (l.state ∷ []) l.reached.items l.next

abbrev pub decreases-reached : goal.decreases-reached
decreases-reached l = 2 ^ 64 - l.next
