use Rattle.std.proofs.Common.{[]}
use Rattle.minimise.proofs.ForCallers.{dead_edge_more}
use Rattle.future_abstraction.proofs.rounds.is_dead.Goals as goal

pub edges-preserved : goal.edges-preserved
edges-preserved c =
    dead_edge_more c.args.classes.now c.edges_from-edges.result.now c.edges.to-index c.edges-test.true [] c.edges.invariant c.if-classes-to-ne0.false
