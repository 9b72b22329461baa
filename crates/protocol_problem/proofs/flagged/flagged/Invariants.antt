use Rattle.std.proofs.Common.{◌≡◌, ◌++◌}
use Rattle.std.specs.Vec.Iter.{into_iter_items}
use Rattle.protocol_problem.proofs.flagged.flagged.Given as goal

abbrev pub invariant-transducers : goal.invariant-transducers
invariant-transducers l =
    goal.iterator-transducers.can_next l.transducer-iterator
    × goal.iterator-transducers.is_finite l.transducer-iterator
    × (l.fn.transducers.items ≡ l.flagged.items ++ into_iter_items l.transducer-iterator)
