use Rattle.atoms.specs.private.Places.{AreTurnedBelow}
use Rattle.atoms.proofs.turned_edges.edges_into.Given as goal

abbrev pub invariant-places : goal.invariant-places
invariant-places l = AreTurnedBelow l.automaton l.used l.place l.into.items
