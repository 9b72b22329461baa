use Rattle.search_history.specs.Histories.{RefinableAbstraction}
use Rattle.refinement.proofs.Uniqueness.{history-unique}
use Rattle.refinement.proofs.laws.one_history.Goals as goal

pub returns : goal.returns
returns g c budget key s z z' rounds rounds' h k =
    let method : RefinableAbstraction = record { related = g.A.Abstraction.related; next = g.A.Refinable.next } in
    history-unique (g.P.Problem.task c.args.problem.now) budget method h k
