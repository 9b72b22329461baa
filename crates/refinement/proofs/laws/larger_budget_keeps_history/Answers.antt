use Rattle.std.proofs.Common.{None}
use Rattle.search_history.specs.Histories.{RefinableAbstraction}
use Rattle.refinement.proofs.Bounds.{history-larger}
use Rattle.refinement.proofs.laws.larger_budget_keeps_history.Goals as goal

pub returns : goal.returns
returns g c budget larger key s z rounds last more h at is =
    let method : RefinableAbstraction = record { related = g.A.Abstraction.related; next = g.A.Refinable.next } in
    history-larger (g.P.Problem.task c.args.problem.now) budget larger more method None last is at h
