use Rattle.std.proofs.Common.{IfOk, subst}
use Rattle.std.proofs.lemmas.Result.{IfOk-weaker}
use Rattle.certificate_checker.specs.Answers.{IsAutomatonAnswer}
use Rattle.certificate_checker.proofs.SameLanguage.{answers_alike}
use Rattle.certificate_checker.proofs.judgement.judge_language.Goals as goal

pub returns : goal.returns
returns c =
    let s = c.args.system.now in
    let r = c.judge_automaton.result in
    IfOk-weaker r _ _ (answers_alike s c.args.automaton.now c.in_ok-canon.canon c.in_ok-canon.ensures.language)
    (subst (λ m. IfOk r (IsAutomatonAnswer s m)) c.as_dfa.ensures.same c.judge_automaton.ensures)
