use Rattle.predicate_abstraction.specs.private.Pairs.{AddsPairs}
use Rattle.predicate_abstraction.specs.private.SharedWords.{IsAcceptingIn}
use Rattle.predicate_abstraction.proofs.shared_words.add_accepting.Given as goal

abbrev pub invariant-states : goal.invariant-states
invariant-states l = AddsPairs (IsAcceptingIn l.b l.row l.column) l.fn.shared l.shared
