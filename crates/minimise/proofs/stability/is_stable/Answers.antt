use Rattle.std.proofs.Common.{arith, below_more}
use Rattle.minimise.specs.private.Rounds.{IsLikeLeast}
use Rattle.minimise.proofs.OwnSignatures.{all_alike}
use Rattle.minimise.proofs.stability.is_stable.Goals as goal

pub states-preserved : goal.states-preserved
states-preserved c =
    let a = c.if-not-branch.false in
    below_more (λ q. IsLikeLeast c.args.automaton.now c.args.classes.now q) c.states.state c.states.invariant (c.in_ok-is_like_least.ensures a)

pub returns : goal.returns
returns c t =
    all_alike c.args.automaton.now c.args.classes.now c.requires
    (λ q l. c.states.invariant q (let e = c.states-state-end.ensures.count in let x = c.states-test.false in omega arith))
