use Rattle.std.proofs.Common.{◌≡◌, length}
use Rattle.minimise.specs.private.BreadthFirst.{ArePlaces}
use Rattle.minimise.proofs.LeastNumbers.{AreFollowed}
use Rattle.minimise.proofs.breadth_first.expand.Given as goal

abbrev pub invariant-edges : goal.invariant-edges
invariant-edges l = record {
  table : length l.numbers.items ≡ length l.automaton.states;
  places : ArePlaces l.found.items l.numbers.items;
  followed : AreFollowed l.automaton l.classes l.found.items l.builder l.from l.edges l.letter-index;
}
