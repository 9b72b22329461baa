use Rattle.std.proofs.Common.{◌<◌, ◌≤◌, ℕ, [], length, get_or}
use Rattle.bit_set.proofs.fit.Given as goal

abbrev pub invariant-places : goal.invariant-places
invariant-places l = (k : ℕ) → k < l.place-index → length (get_or l.sets (get_or l.places k 0) []) ≤ l.count
