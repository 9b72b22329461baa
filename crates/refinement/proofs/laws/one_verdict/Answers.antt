use Rattle.search_history.specs.Histories.{RefinableAbstraction}
use Rattle.refinement.proofs.OneVerdict.{verdict-unique}
use Rattle.refinement.proofs.laws.one_verdict.Goals as goal

pub returns : goal.returns
returns g c budget key v w h k =
    let method : RefinableAbstraction = record { related = g.A.Abstraction.related; next = g.A.Refinable.next } in
    verdict-unique (g.P.Problem.task c.args.problem.now) method budget key v w h k
