use Rattle.std.proofs.Common.{◌≡◌, ◌<◌, ℕ, true, false, get_or}
use Rattle.determinise.proofs.silent.has_true.Given as goal

abbrev pub invariant-flags : goal.invariant-flags
invariant-flags l = (k : ℕ) → k < l.flag-index → get_or l.flags k true ≡ false
