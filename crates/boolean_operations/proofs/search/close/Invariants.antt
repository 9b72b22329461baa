use Rattle.std.proofs.Common.{length, ◌≤◌, ◌-◌, ◌^◌}
use Rattle.boolean_operations.specs.private.Search.{Reached, Extends}
use Rattle.boolean_operations.proofs.search.close.Given as goal

abbrev pub invariant-states : goal.invariant-states
invariant-states g l = record {
  within : l.place ≤ length l.found.states.items;
  reached : Reached (g.T.Graph.is_state l.graph) (g.T.Graph.is_start l.graph) (g.T.Graph.edge l.graph) l.found.states.items l.groups.items l.steps l.place;
  extends : Extends l.fn.found.states.items l.fn.groups.items l.steps l.found.states.items l.groups.items l.steps (length l.steps);
}

abbrev pub decreases-states : goal.decreases-states
decreases-states g l = 2 ^ 64 - l.place
