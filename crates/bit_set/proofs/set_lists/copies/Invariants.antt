use Rattle.std.proofs.Common.{◌≡◌, ◌+◌, ◌/◌, ℕ, length}
use Rattle.bit_set.specs.SetLists.{AreEmpty}
use Rattle.bit_set.proofs.set_lists.copies.Given as goal

abbrev pub invariant-sets : goal.invariant-sets
invariant-sets l = (bound : ℕ) → length l.fn.none ≡ bound / 64 + 1 → AreEmpty l.counter bound l.sets.items
