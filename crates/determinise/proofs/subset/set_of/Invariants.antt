use Rattle.word_automata.proofs.ForCallers.{HasAddedSome}
use Rattle.determinise.proofs.subset.set_of.Given as goal

abbrev pub invariant-states : goal.invariant-states
invariant-states l = HasAddedSome l.states l.set.keys l.state-index
