use Rattle.std.proofs.lemmas.Result.{IfOk-weaker}
use Rattle.certificate_checker.specs.private.Parts.{IsSource, IsBefore}
use Rattle.certificate_checker.proofs.Least.{least-alike}
use Rattle.certificate_checker.proofs.Parts.{source-alike}
use Rattle.certificate_checker.proofs.judgement.least_before.Goals as goal

pub returns : goal.returns
returns c =
    let t = c.args.step.now in
    let m = c.args.automaton.now in
    let word = c.args.word.now in
    let last = c.in_ok-last.last in
    IfOk-weaker c.least_source.result _ _
    (least-alike (λ v. v.items) (IsSource t m last) (IsBefore t m word) (source-alike t m word last c.in_ok-last.ensures.language))
    c.least_source.ensures
