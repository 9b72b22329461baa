use Rattle.std.proofs.Common.{◌≡◌, ◌++◌, map, take}
use Rattle.transducers.specs.Combination.{copy_edge}
use Rattle.transducers.proofs.joining.push_bridges.Given as goal

abbrev pub invariant-targets : goal.invariant-targets
invariant-targets l = l.edges.items ≡ l.initial.edges.items ++ map (λ to. copy_edge to l.separator) (take l.target-index l.targets)
