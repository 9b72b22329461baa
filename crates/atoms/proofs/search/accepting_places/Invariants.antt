use Rattle.atoms.proofs.Growth.{AreAcceptingBelow}
use Rattle.atoms.proofs.search.accepting_places.Given as goal

abbrev pub invariant-places : goal.invariant-places
invariant-places l = AreAcceptingBelow l.automaton l.used l.place l.set
