use Rattle.std.proofs.Common.{subst}
use Rattle.safety_problem.specs.Reversal.{reversed}
use Rattle.search_history.specs.Histories.{RefinableAbstraction}
use Rattle.refinement.specs.Laws.{HasSoundVerdicts}
use Rattle.backward_search.proofs.laws.found_verdicts_are_sound.Goals as goal

pub returns : goal.returns
returns g c budget key v h =
    let task = g.P.Problem.task in
    let method : RefinableAbstraction = record { related = g.A.Abstraction.related; next = g.A.Refinable.next } in
    (subst (λ p. HasSoundVerdicts (reversed (task p)) method) c.new.ensures c.verdicts_are_sound.ensures) budget key h.found h.is_found
