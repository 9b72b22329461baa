use Rattle.search_history.specs.Histories.{RefinableAbstraction}
use Rattle.refinement.proofs.KeyBounds.{rounds_bounded}
use Rattle.refinement.proofs.laws.keys_bound_rounds.Goals as goal

pub returns : goal.returns
returns g c tests signature are budget key s z rounds h =
    let method : RefinableAbstraction = record { related = g.A.Abstraction.related; next = g.A.Refinable.next } in
    rounds_bounded (g.P.Problem.task c.args.problem.now) method (λ k a p. (g.met.A.Abstraction.equivalence k a).reflexive p) tests signature are budget h
