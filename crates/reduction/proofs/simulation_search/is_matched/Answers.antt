use Rattle.std.proofs.Common.{sym, ◌∙◌}
use Rattle.reduction.proofs.Simulations.{matched_at}
use Rattle.reduction.proofs.simulation_search.is_matched.Goals as goal

pub returns-then-is_below : goal.returns-then-is_below
returns-then-is_below c t =
    matched_at c.args.pairs.now c.args.edges.now c.edges.at c.args.letter c.args.to c.edges-test.true (sym c.ne.ensures ∙ c.if-ne.false)
    (c.is_below.ensures c.if-is_below.true)
