use Rattle.predicate_abstraction.specs.private.Codes.{AreCodes}
use Rattle.predicate_abstraction.proofs.codes.codes.Given as goal

abbrev pub invariant-columns : goal.invariant-columns
invariant-columns l = AreCodes l.set l.row l.classes l.codes.items l.column
