use Rattle.std.proofs.Common.{length, []}
use Rattle.boolean_operations.specs.private.Search.{Reached, AreFound}
use Rattle.boolean_operations.proofs.search.begin.Given as goal

abbrev pub invariant-starts : goal.invariant-starts
invariant-starts g l = record {
  reached : Reached (g.T.Graph.is_state l.graph) (g.T.Graph.is_start l.graph) (g.T.Graph.edge l.graph) l.found.states.items l.groups.items [] (length l.found.states.items);
  there : AreFound l.found.states.items l.groups.items 0 l.start-items l.start-index;
}
