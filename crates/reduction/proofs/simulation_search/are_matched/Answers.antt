use Rattle.std.proofs.Common.{None, get_or, below_more, arith}
use Rattle.reduction.specs.Simulation.{IsMatched}
use Rattle.reduction.proofs.Simulations.{matched_all}
use Rattle.reduction.proofs.simulation_search.are_matched.Goals as goal

pub edges-preserved : goal.edges-preserved
edges-preserved c =
    below_more (λ k. IsMatched c.args.pairs.now c.args.others.now (get_or c.args.edges.now k (None, 0))) c.edges.letter-index c.edges.invariant
    (c.is_matched.ensures c.if-not-is_matched.false)

pub returns : goal.returns
returns c all = matched_all c.args.pairs.now c.args.edges.now c.args.others.now (λ k l. c.edges.invariant k (omega arith))
