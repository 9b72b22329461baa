use Rattle.std.proofs.Common.{◌≡◌, ◌-◌, ◌^◌, [], length}
use Rattle.minimise.specs.private.BreadthFirst.{ArePlaces, AreExplored}
use Rattle.minimise.proofs.breadth_first.explore_classes.Given as goal

abbrev pub invariant-states : goal.invariant-states
invariant-states l = record {
  table : length l.numbers.items ≡ length l.automaton.states;
  places : ArePlaces l.found.items l.numbers.items;
  explored : AreExplored l.automaton l.classes l.found.items l.builder l.next [];
}

abbrev pub decreases-states : goal.decreases-states
decreases-states l = 2 ^ 64 - l.next
