use Rattle.std.proofs.lemmas.Result.{IfOk-weaker}
use Rattle.armc_commands.specs.Commands.Verify.{Judges}
use Rattle.armc_commands.proofs.Replies.{IsAnswer-fits}
use Rattle.armc_commands.proofs.commands.verify.judgement.Goals as goal

pub reply_to_answer-requires : goal.reply_to_answer-requires
reply_to_answer-requires c = IsAnswer-fits c.args.system.now c.args.certificate.now c.in_ok-answer.answer c.in_ok-answer.ensures.answer

pub returns : goal.returns
returns c text means =
    IfOk-weaker c.reply_to_answer.result _ (Judges c.args.system.now text)
    (λ reply is. record {
      certificate = c.args.certificate.now;
      answer = c.in_ok-answer.answer;
      means = means;
      is_answer = c.in_ok-answer.ensures.answer;
      reply_is = is;
    })
    c.reply_to_answer.ensures
