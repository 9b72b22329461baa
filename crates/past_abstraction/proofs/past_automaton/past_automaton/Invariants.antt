use Rattle.past_abstraction.specs.private.PastSets.{AreSingle}
use Rattle.past_abstraction.proofs.past_automaton.past_automaton.Given as goal

abbrev pub invariant-states : goal.invariant-states
invariant-states l = AreSingle l.state l.a.letters l.builder l.sets.keys
