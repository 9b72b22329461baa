use Rattle.std.proofs.Common.{◌≡◌, map, take}
use Rattle.transducers.specs.Combination.{inverse_node}
use Rattle.transducers.proofs.combination.inverse_states.Given as goal

abbrev pub invariant-states : goal.invariant-states
invariant-states l = l.states.items ≡ map inverse_node (take l.state-index l.state-items)
