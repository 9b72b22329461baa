use Rattle.std.proofs.Common.{◌≡◌, length}
use Rattle.minimise.proofs.splitters.empty_lists.Given as goal

abbrev pub invariant-lists : goal.invariant-lists
invariant-lists l = length l.lists.items ≡ l.counter
