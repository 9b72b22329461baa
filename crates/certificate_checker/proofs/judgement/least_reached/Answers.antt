use Rattle.std.proofs.lemmas.Result.{IfOk-weaker}
use Rattle.boolean_operations.specs.Inclusion.{IsOutside}
use Rattle.certificate_checker.specs.private.Parts.{IsReached}
use Rattle.certificate_checker.proofs.Least.{least-alike}
use Rattle.certificate_checker.proofs.Parts.{outside-or-none}
use Rattle.certificate_checker.proofs.judgement.least_reached.Goals as goal

pub returns : goal.returns
returns c =
    let m = c.args.automaton.now in
    let reached = c.in_ok-reached.reached in
    let language = c.in_ok-reached.ensures.language in
    IfOk-weaker c.included.result _ _
    (λ found h. least-alike (λ v. v.items) (IsOutside reached m) (IsReached c.args.step.now m)
    (λ w. (λ is. ((language w).0 is.0, is.1), λ is. ((language w).1 is.0, is.1))) found (outside-or-none (λ v. v.items) reached m found h))
    c.included.ensures
