use Rattle.atoms.specs.private.Adding.{AreNone}
use Rattle.atoms.proofs.turned_edges.no_edges.Given as goal

abbrev pub invariant-states : goal.invariant-states
invariant-states l = AreNone l.counter l.into.items
