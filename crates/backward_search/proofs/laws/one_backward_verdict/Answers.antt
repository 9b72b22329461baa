use Rattle.std.proofs.Common.{subst}
use Rattle.safety_problem.specs.Reversal.{reversed}
use Rattle.search_history.specs.Histories.{RefinableAbstraction}
use Rattle.refinement.specs.Laws.{HasOneVerdict}
use Rattle.backward_search.proofs.ToldOnce.{told_once}
use Rattle.backward_search.proofs.laws.one_backward_verdict.Goals as goal

pub returns : goal.returns
returns g c =
    let task = g.P.Problem.task in
    let method : RefinableAbstraction = record { related = g.A.Abstraction.related; next = g.A.Refinable.next } in
    told_once (task c.args.problem.now) method (subst (λ p. HasOneVerdict (reversed (task p)) method) c.new.ensures c.one_verdict.ensures) c.canonical_is_unique.ensures
