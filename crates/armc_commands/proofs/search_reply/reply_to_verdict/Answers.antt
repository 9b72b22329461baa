use Rattle.std.proofs.Common.{◌∙◌, [], ◌∷◌, append-nil, sym, ap}
use Rattle.armc_commands.specs.SearchReply.{report_of}
use Rattle.armc_commands.proofs.search_reply.reply_to_verdict.Goals as goal

pub returns : goal.returns
returns c is =
    let text = c.in_ok-out.out.items in
    record {
      answers = (record { verdict = c.args.verdict.now; text = text }) ∷ [];
      are_answers = (record { is_verdict = is; is_told = c.in_ok-out.ensures }, tt);
      reply_is = λ i. record {
        status = c.verdict_status.ensures i;
        out = (c.from_vec.ensures ∙ sym (append-nil text)) i;
        err = (c.from_vec-2.ensures ∙ c.in_ok-err.ensures ∙ ap (report_of c.args.telling) c.log_of.ensures ∙ sym (append-nil _)) i;
      };
    }
