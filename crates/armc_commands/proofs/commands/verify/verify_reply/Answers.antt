use Rattle.std.proofs.Common.{inl, inr, refl}
use Rattle.std.proofs.lemmas.Result.{IfOk-weaker}
use Rattle.armc_commands.specs.Commands.Verify.{IsVerifyReply}
use Rattle.armc_commands.proofs.Replies.{HasLetters-meant, certificate_refused}
use Rattle.armc_commands.proofs.commands.verify.verify_reply.Goals as goal

pub judgement-requires : goal.judgement-requires
judgement-requires c =
    HasLetters-meant c.args.system.now c.args.text.now c.in-Ok.certificate ((c.in-Ok.ensures.found c.in-Ok.certificate).1 refl)

pub returns-in-Ok : goal.returns-in-Ok
returns-in-Ok c =
    IfOk-weaker c.judgement.result _ (IsVerifyReply c.args.system.now c.args.text.now) (λ reply judges. inr judges)
    (c.judgement.ensures c.args.text.now ((c.in-Ok.ensures.found c.in-Ok.certificate).1 refl))

pub returns-in-Err : goal.returns-in-Err
returns-in-Err c =
    certificate_refused (IsVerifyReply c.args.system.now c.args.text.now) c.args.system.now c.args.text.now (λ reply refuses. inl refuses) c.in-Err.fault
    c.certificate_refusal.result c.certificate_refusal.ensures.reply c.certificate_refusal.ensures.fault (λ other. c.in-Err.ensures.fault other)
