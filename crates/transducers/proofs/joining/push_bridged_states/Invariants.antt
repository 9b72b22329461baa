use Rattle.std.proofs.Common.{◌≡◌, ◌++◌, map, take}
use Rattle.transducers.specs.Joining.{bridged_node}
use Rattle.transducers.proofs.joining.push_bridged_states.Given as goal

abbrev pub invariant-states : goal.invariant-states
invariant-states l =
    l.states.items ≡ l.initial.states.items ++ map (bridged_node l.by l.separator l.targets) (take l.state-index l.state-items)
