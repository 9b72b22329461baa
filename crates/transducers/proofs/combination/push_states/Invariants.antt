use Rattle.std.proofs.Common.{◌≡◌, ◌++◌, map, take}
use Rattle.transducers.specs.Combination.{shifted_node}
use Rattle.transducers.proofs.combination.push_states.Given as goal

abbrev pub invariant-states : goal.invariant-states
invariant-states l = l.states.items ≡ l.initial.states.items ++ map (shifted_node l.by) (take l.state-index l.state-items)
