use Rattle.exploration.proofs.Chains.{AreIncomingBelow}
use Rattle.exploration.proofs.incoming.Incoming.new.Given as goal

abbrev pub invariant-states : goal.invariant-states
invariant-states l = AreIncomingBelow l.automaton l.last.items l.edges.items l.state
