use Rattle.std.proofs.Common.{◌≡◌, length}
use Rattle.minimise.specs.private.Splitters.{AreListed, AreMovedBefore, target_of}
use Rattle.minimise.proofs.splitters.move_sources.Given as goal

abbrev pub invariant-moves : goal.invariant-moves
invariant-moves l = record {
  count : length l.members.items ≡ l.count;
  listed : AreListed l.classes.items l.members.items;
  moved : AreMovedBefore (target_of l.targets l.count) l.moves l.fn.classes.items l.classes.items l.state-index;
}
