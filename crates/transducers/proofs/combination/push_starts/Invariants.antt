use Rattle.std.proofs.Common.{◌≡◌, ◌+◌, ◌++◌, map, take}
use Rattle.transducers.proofs.combination.push_starts.Given as goal

abbrev pub invariant-starts : goal.invariant-starts
invariant-starts l = l.starts.items ≡ l.initial.starts.items ++ map (λ q. q + l.by) (take l.start-index l.start-items)
