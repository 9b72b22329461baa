use Rattle.std.proofs.Common.{refl, arith}
use Rattle.boolean_operations.proofs.NearEdges.{gap_between}
use Rattle.boolean_operations.proofs.merged_edges.is_gap_for.Goals as goal

pub returns-then-ends_below : goal.returns-then-ends_below
returns-then-ends_below c holds =
    gap_between c.args.edges.now c.requires c.args.letter c.args.at (omega (arith, c.if-at-edges.false)) (c.if-ends_below.ensures refl) (c.begins_above.ensures holds)
