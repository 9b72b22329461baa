use Rattle.atoms.specs.private.Places.{AreUsedBelow}
use Rattle.atoms.proofs.preimages.used_states.Given as goal

abbrev pub invariant-states : goal.invariant-states
invariant-states l = AreUsedBelow l.automaton l.state l.used.items
