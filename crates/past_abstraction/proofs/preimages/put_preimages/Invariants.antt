use Rattle.std.proofs.Common.{◌≡◌, length, take}
use Rattle.past_abstraction.specs.private.PastSets.{ArePreimages}
use Rattle.past_abstraction.proofs.preimages.put_preimages.Given as goal

abbrev pub invariant-states : goal.invariant-states
invariant-states l = record {
  count : length l.lists.items ≡ length l.fn.lists.items;
  preimages : ArePreimages l.into (take l.state-index l.set) l.lists.items;
}
