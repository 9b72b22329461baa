use Rattle.std.proofs.Common.{length, ◌+◌}
use Rattle.boolean_operations.specs.private.Search.{Reached, Extends, AreTaken, AreBounded, AreBefore}
use Rattle.boolean_operations.proofs.search.expand.Given as goal

abbrev pub invariant-steps : goal.invariant-steps
invariant-steps g l = record {
  reached : Reached (g.T.Graph.is_state l.graph) (g.T.Graph.is_start l.graph) (g.T.Graph.edge l.graph) l.found.states.items l.groups.items l.steps.items (length l.found.states.items);
  extends : Extends l.fn.found.states.items l.fn.groups.items l.fn.steps.items l.found.states.items l.groups.items l.steps.items (l.from + 1);
  taken : AreTaken l.found.states.items l.groups.items l.steps.items l.from l.pending l.letter-index;
  bounded : AreBounded l.steps.items l.from l.pending l.letter-index;
  before : AreBefore l.steps.items (l.from + 1);
}
