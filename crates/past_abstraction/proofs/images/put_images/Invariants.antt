use Rattle.std.proofs.Common.{◌≡◌, length, take}
use Rattle.past_abstraction.specs.private.WordSets.{AreImages}
use Rattle.past_abstraction.proofs.images.put_images.Given as goal

abbrev pub invariant-states : goal.invariant-states
invariant-states l = record {
  count : length l.lists.items ≡ l.a.letters;
  images : AreImages l.a (take l.state-index l.set) l.lists.items;
}
