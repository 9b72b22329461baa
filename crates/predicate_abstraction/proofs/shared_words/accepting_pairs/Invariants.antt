use Rattle.std.proofs.Common.{[], length}
use Rattle.predicate_abstraction.specs.private.Pairs.{AddsPairs}
use Rattle.predicate_abstraction.specs.private.SharedWords.{AreAccepting}
use Rattle.predicate_abstraction.proofs.shared_words.accepting_pairs.Given as goal

abbrev pub invariant-states : goal.invariant-states
invariant-states l = AddsPairs (AreAccepting l.a l.b l.state) (record { rows = length l.a.states; columns = length l.b.states; pairs = [] }) l.shared
