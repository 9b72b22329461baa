use Rattle.std.proofs.Common.{◌≡◌, ℕ, length}
use Rattle.bit_set.specs.SetLists.{HasAt}
use Rattle.bit_set.proofs.set_lists.sets_without_room.Given as goal

abbrev pub invariant-sets : goal.invariant-sets
invariant-sets l = record {
  count : length l.sets.items ≡ l.counter;
  none : (k number : ℕ) → HasAt l.sets.items k number → ⊥;
}
