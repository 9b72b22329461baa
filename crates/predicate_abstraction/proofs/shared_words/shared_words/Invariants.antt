use Rattle.std.proofs.Common.{◌-◌, ◌^◌}
use Rattle.predicate_abstraction.specs.private.SharedWords.{SharesWords}
use Rattle.predicate_abstraction.proofs.shared_words.shared_words.Given as goal

abbrev pub invariant-pairs : goal.invariant-pairs
invariant-pairs l = SharesWords l.a l.b l.shared l.next

abbrev pub decreases-pairs : goal.decreases-pairs
decreases-pairs l = 2 ^ 64 - l.next
