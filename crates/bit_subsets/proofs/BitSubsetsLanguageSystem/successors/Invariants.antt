use Rattle.std.proofs.Common.{◌≡◌, ◌≤◌, drop, length}
use Rattle.std.specs.Vec.Iter.{into_iter_items}
use Rattle.bit_subsets.specs.private.Successors.{AreSuccessorsBelow}
use Rattle.bit_subsets.proofs.BitSubsetsLanguageSystem.successors.Given as goal

abbrev pub invariant-rows : goal.invariant-rows
invariant-rows l =
    goal.iterator-rows.can_next l.row-iterator
    × goal.iterator-rows.is_finite l.row-iterator
    × AreSuccessorsBelow l.self.automaton.now l.state l.letter l.successors.items
    × (l.letter ≤ length (into_iter_items l.initial.row-iterator))
    × (drop l.letter (into_iter_items l.initial.row-iterator) ≡ into_iter_items l.row-iterator)
