use Rattle.std.proofs.Common.{length}
use Rattle.boolean_operations.specs.private.Search.{Reached, Extends, AreFound}
use Rattle.boolean_operations.proofs.search.close_state.Given as goal

abbrev pub invariant-targets : goal.invariant-targets
invariant-targets g l = record {
  reached : Reached (g.T.Graph.is_state l.graph) (g.T.Graph.is_start l.graph) (g.T.Graph.edge l.graph) l.found.states.items l.groups.items l.steps l.place;
  extends : Extends l.fn.found.states.items l.fn.groups.items l.steps l.found.states.items l.groups.items l.steps (length l.steps);
  there : AreFound l.found.states.items l.groups.items (length l.steps) l.target-items l.target-index;
}
