use Rattle.std.proofs.Common.{subst}
use Rattle.command_replies.specs.Reading.{IsReadingOf}
use Rattle.command_words.specs.Words.{said}
use Rattle.armc_commands.proofs.QuietReads.{second_told}
use Rattle.armc_commands.proofs.outcome.reply_to_reading.Goals as goal

pub carry_out-requires-clause-system : goal.carry_out-requires-clause-system
carry_out-requires-clause-system g c κs within = (subst (IsReadingOf c.requires.reading.0) c.in-Protocol.is c.requires.reading.1).1

pub returns-in-Protocol-clause-outcome : goal.returns-in-Protocol-clause-outcome
returns-in-Protocol-clause-outcome g c = λ words before text earlier asked from says.
    c.carry_out.ensures.outcome words before earlier asked
    (record { text = text; is_text = from; says = (subst (IsReadingOf text) c.in-Protocol.is says).0 })

pub returns-in-Protocol-clause-quiet : goal.returns-in-Protocol-clause-quiet
returns-in-Protocol-clause-quiet g c = λ words text ends asked from says.
    let told = (g.L.Library.state c.args.library.now).told in
    c.carry_out.ensures.quiet ends.reliable
    (second_told words told ends.tells (said c.args.command) asked c.in-Protocol.protocol
    (record { text = text; is_text = from; says = (subst (IsReadingOf text) c.in-Protocol.is says).0 }))
