use Rattle.std.proofs.Common.{◌≡◌, ◌<◌, ◌⊎◌, ℕ, length, slice_index}
use Rattle.minimise.specs.private.Splitters.{IsListed}
use Rattle.minimise.proofs.splitters.members.Given as goal

abbrev pub invariant-states : goal.invariant-states
invariant-states l = record {
  count : length l.classes < length l.lists.items;
  below : (q : ℕ) → q < l.state → (slice_index l.classes q ≡ 0) ⊎ IsListed l.lists.items (slice_index l.classes q) q;
}
