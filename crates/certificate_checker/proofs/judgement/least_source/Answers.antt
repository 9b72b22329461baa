use Rattle.std.proofs.lemmas.Result.{IfOk-weaker}
use Rattle.boolean_operations.specs.CommonWords.{IsCommonWord}
use Rattle.certificate_checker.specs.private.Parts.{IsSource}
use Rattle.certificate_checker.proofs.Least.{least-alike}
use Rattle.certificate_checker.proofs.judgement.least_source.Goals as goal

pub returns : goal.returns
returns c =
    let m = c.args.automaton.now in
    let language = c.in_ok-sources.ensures.language in
    IfOk-weaker c.least_common_word.result _ _
    (least-alike (λ v. v.items) (IsCommonWord c.in_ok-sources.sources m) (IsSource c.args.step.now m c.args.last.now)
    (λ w. (λ is. ((language w).0 is.0, is.1), λ is. ((language w).1 is.0, is.1))))
    c.least_common_word.ensures
