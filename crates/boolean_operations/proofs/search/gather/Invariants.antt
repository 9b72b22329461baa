use Rattle.std.proofs.Common.{length, ◌-◌}
use Rattle.boolean_operations.specs.private.Search.{AreStepsUpTo}
use Rattle.boolean_operations.proofs.search.gather.Given as goal

abbrev pub invariant-states : goal.invariant-states
invariant-states g l =
    AreStepsUpTo (g.T.Graph.is_state l.graph) (g.T.Graph.edge l.graph) (g.T.Graph.goal l.graph) l.found.states.items l.groups l.group l.from l.place l.pending.items

abbrev pub decreases-states : goal.decreases-states
decreases-states g l = length l.groups - l.place
