use Rattle.search_history.specs.Histories.{RefinableAbstraction}
use Rattle.refinement.proofs.SoundVerdicts.{verdict-is-sound}
use Rattle.refinement.proofs.laws.verdicts_are_sound.Goals as goal

pub returns : goal.returns
returns g c budget key v h =
    let method : RefinableAbstraction = record { related = g.A.Abstraction.related; next = g.A.Refinable.next } in
    verdict-is-sound (g.P.Problem.task c.args.problem.now) method (λ k a p. (g.met.A.Abstraction.equivalence k a).reflexive p) budget key v h
