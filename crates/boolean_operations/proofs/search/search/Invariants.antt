use Rattle.std.proofs.Common.{length, ◌-◌, ◌^◌}
use Rattle.boolean_operations.specs.private.Search.{Reached, Done, BeginsAt, AreBefore}
use Rattle.boolean_operations.proofs.search.search.Given as goal

abbrev pub invariant-groups : goal.invariant-groups
invariant-groups g l = record {
  reached : Reached (g.T.Graph.is_state l.graph) (g.T.Graph.is_start l.graph) (g.T.Graph.edge l.graph) l.found.states.items l.groups.items l.steps.items (length l.found.states.items);
  done : Done (g.T.Graph.is_start l.graph) (g.T.Graph.edge l.graph) (g.T.Graph.goal l.graph) l.found.states.items l.groups.items l.steps.items l.group;
  begins : BeginsAt l.groups.items l.place l.group;
  before : AreBefore l.steps.items l.group;
}

abbrev pub decreases-groups : goal.decreases-groups
decreases-groups g l = 2 ^ 64 - l.group
