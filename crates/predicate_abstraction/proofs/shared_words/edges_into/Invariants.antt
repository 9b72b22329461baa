use Rattle.predicate_abstraction.specs.private.SharedWords.{AreEdgesByTarget}
use Rattle.predicate_abstraction.proofs.shared_words.edges_into.Given as goal

abbrev pub invariant-states : goal.invariant-states
invariant-states l = AreEdgesByTarget l.a l.lists.items l.state
