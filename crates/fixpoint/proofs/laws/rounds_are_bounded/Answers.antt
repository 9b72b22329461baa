use Rattle.fixpoint.proofs.Growth.{growing, bounded}
use Rattle.fixpoint.proofs.laws.rounds_are_bounded.Goals as goal

pub returns-clause-growth : goal.returns-clause-growth
returns-clause-growth g c key budget s z ns ms end round =
    growing (g.P.Problem.task c.args.problem.now) (g.A.Abstraction.related key) (λ a p. (g.met.A.Abstraction.equivalence key a).reflexive p)
    budget round.forward

pub returns-clause-bound : goal.returns-clause-bound
returns-clause-bound g c key tests signature are budget s z ns ms end round =
    bounded (g.P.Problem.task c.args.problem.now) (g.A.Abstraction.related key) (λ a p. (g.met.A.Abstraction.equivalence key a).reflexive p)
    budget tests signature are s z ns ms end round
