use Rattle.std.proofs.Common.{◌≡◌, take}
use Rattle.reduction.specs.private.Copies.{with_starts}
use Rattle.reduction.proofs.copying.add_starts.Given as goal

abbrev pub invariant-starts : goal.invariant-starts
invariant-starts l = l.builder ≡ with_starts l.fn.builder (take l.start-index l.starts)
