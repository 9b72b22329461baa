use Rattle.std.proofs.Common.{subst}
use Rattle.safety_problem.specs.Reversal.{reversed}
use Rattle.search_history.specs.Histories.{RefinableAbstraction}
use Rattle.refinement.specs.Laws.{IsBoundedByRuns}
use Rattle.backward_search.proofs.TurnedRuns.{turned_steps}
use Rattle.backward_search.proofs.laws.backward_runs_bound_rounds.Goals as goal

pub returns : goal.returns
returns g c n w initial leads =
    let task = g.P.Problem.task in
    let method : RefinableAbstraction = record { related = g.A.Abstraction.related; next = g.A.Refinable.next } in
    let turned = turned_steps (task c.args.problem.now) n w initial leads in
    (subst (λ p. IsBoundedByRuns (reversed (task p)) method) c.new.ensures c.runs_bound_rounds.ensures) n turned.0 turned.1 turned.2
