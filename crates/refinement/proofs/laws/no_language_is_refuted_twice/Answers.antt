use Rattle.search_history.specs.Histories.{RefinableAbstraction}
use Rattle.refinement.proofs.Exclusion.{refuted_once}
use Rattle.refinement.proofs.laws.no_language_is_refuted_twice.Goals as goal

pub returns : goal.returns
returns g c budget key s z rounds h =
    let method : RefinableAbstraction = record { related = g.A.Abstraction.related; next = g.A.Refinable.next } in
    refuted_once (g.P.Problem.task c.args.problem.now) method g.met.A.Excluding.excludes budget h
