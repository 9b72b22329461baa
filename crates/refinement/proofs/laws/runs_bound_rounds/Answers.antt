use Rattle.search_history.specs.Histories.{RefinableAbstraction}
use Rattle.refinement.proofs.Bounds.{history-bounded}
use Rattle.refinement.proofs.laws.runs_bound_rounds.Goals as goal

pub returns : goal.returns
returns g c n w initial bad budget key s z rounds h =
    let method : RefinableAbstraction = record { related = g.A.Abstraction.related; next = g.A.Refinable.next } in
    history-bounded (g.P.Problem.task c.args.problem.now) method (λ k a p. (g.met.A.Abstraction.equivalence k a).reflexive p) budget n w initial bad h
