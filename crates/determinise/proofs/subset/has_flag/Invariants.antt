use Rattle.std.proofs.Common.{◌≡◌, ◌<◌, ℕ, true, false, get_or}
use Rattle.determinise.proofs.subset.has_flag.Given as goal

abbrev pub invariant-states : goal.invariant-states
invariant-states l = (k : ℕ) → k < l.state-index → get_or l.flags (get_or l.states k 0) true ≡ false
