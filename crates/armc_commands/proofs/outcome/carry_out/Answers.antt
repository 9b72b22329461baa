use Rattle.std.proofs.Common.{ℕ, List, inr, subst}
use Rattle.command_words.specs.Words.{said}
use Rattle.armc_commands.specs.Origin.{Told, Origin, IsTextFrom, origin_of}
use Rattle.armc_commands.specs.Commands.{CommandReply}
use Rattle.armc_commands.proofs.outcome.carry_out.Goals as goal

pub returns-clause-outcome : goal.returns-clause-outcome
returns-clause-outcome g c = λ words before earlier asked has.
    let command = said c.args.command in
    let text = c.in-Ok.text.items in
    let here = subst (λ (t : Told). IsTextFrom t (origin_of c.second_origin.result) text) earlier.same_told c.in-Ok.ensures.text in
    inr (record {
      command = command;
      asked = asked;
      replies = inr (record {
        protocol = c.args.protocol.now;
        text = text;
        has_protocol = has;
        is_text = subst (λ (o : Origin). IsTextFrom before.told o text) c.second_origin.ensures.origin here;
        replies = subst (λ (l : List ℕ). CommandReply command c.args.protocol.now l c.in_ok-command_reply.field-0) c.as_slice.ensures.value c.in_ok-command_reply.ensures;
      });
    })
