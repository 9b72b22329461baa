use Rattle.std.proofs.Common.{◌≡◌, length}
use Rattle.reduction.proofs.emptiness.find_sources.Given as goal

abbrev pub invariant-links : goal.invariant-links
invariant-links l = length l.flags.items ≡ length l.fn.flags.items
