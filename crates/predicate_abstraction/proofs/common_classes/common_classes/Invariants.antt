use Rattle.predicate_abstraction.proofs.ClassPairs.{HasPlaces}
use Rattle.predicate_abstraction.proofs.common_classes.common_classes.Given as goal

abbrev pub invariant-states : goal.invariant-states
invariant-states l = HasPlaces l.a l.b l.pairs.items l.state
