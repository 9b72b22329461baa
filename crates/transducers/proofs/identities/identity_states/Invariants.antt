use Rattle.std.proofs.Common.{◌≡◌, map, take}
use Rattle.transducers.specs.Combination.{identity_node}
use Rattle.transducers.proofs.identities.identity_states.Given as goal

abbrev pub invariant-states : goal.invariant-states
invariant-states l = l.states.items ≡ map identity_node (take l.state l.a.states)
