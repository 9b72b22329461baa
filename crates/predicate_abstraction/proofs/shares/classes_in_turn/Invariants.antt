use Rattle.std.proofs.Common.{take}
use Rattle.predicate_abstraction.specs.private.Splitting.{AreClassesBy}
use Rattle.predicate_abstraction.proofs.shares.classes_in_turn.Given as goal

abbrev pub invariant-predicates : goal.invariant-predicates
invariant-predicates l = AreClassesBy (take l.predicate-index l.predicates) l.a l.classes.items
