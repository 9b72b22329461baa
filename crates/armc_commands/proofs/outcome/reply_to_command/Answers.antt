use Rattle.std.proofs.Common.{◌∙◌, List, ℕ, sym, subst}
use Rattle.command_replies.specs.Reading.{IsReadingOf}
use Rattle.command_words.specs.Words.{said}
use Rattle.armc_commands.specs.Origin.{Told, Origin, IsTextFrom}
use Rattle.armc_commands.specs.Commands.{protocol_origin}
use Rattle.armc_commands.specs.private.LibraryReads.{IsToldOrigin}
use Rattle.armc_commands.specs.Outcome.{TellsTexts}
use Rattle.armc_commands.proofs.QuietReads.{first_told}
use Rattle.armc_commands.proofs.outcome.reply_to_command.Goals as goal

pub returns-in-Err-clause-quiet : goal.returns-in-Err-clause-quiet
returns-in-Err-clause-quiet g c = λ words asked ends.
    let told = (g.L.Library.state c.args.library.now).told in
    c.in-Err.ensures.no_fault ends.reliable
    (subst (IsToldOrigin told) (sym c.protocol_origin.ensures.origin) (first_told words told ends.tells (said c.args.command) asked))

pub returns-in_err-reading-clause-quiet : goal.returns-in_err-reading-clause-quiet
returns-in_err-reading-clause-quiet g c = λ words asked ends.
    let told = (g.L.Library.state c.args.library.now).told in
    c.in-Ok.ensures.no_fault ends.reliable
    (subst (IsToldOrigin told) (sym c.protocol_origin.ensures.origin) (first_told words told ends.tells (said c.args.command) asked))

pub returns-clause-outcome : goal.returns-clause-outcome
returns-clause-outcome g c = λ words asked.
    let old = g.L.Library.state c.args.library.now in
    let P : Origin → Type 0 = λ origin. IsTextFrom old.told origin c.in-Ok.text.items in
    c.reply_to_reading.ensures.outcome words old c.in-Ok.text.items
    (record { same_told = c.in-Ok.ensures.told; no_fall = c.in-Ok.ensures.no_fall }) asked (subst P c.protocol_origin.ensures.origin c.in-Ok.ensures.text)
    (subst (IsReadingOf c.in-Ok.text.items) (sym c.deref.ensures)
    (subst (λ (text : List ℕ). IsReadingOf text c.in_ok-reading.reading.value) c.as_slice.ensures.value c.in_ok-reading.ensures))

pub returns-clause-quiet : goal.returns-clause-quiet
returns-clause-quiet g c = λ words asked ends.
    let told = (g.L.Library.state c.args.library.now).told in
    let P : Origin → Type 0 = λ origin. IsTextFrom told origin c.in-Ok.text.items in
    let Q : Told → Type 0 = λ now. IsTextFrom now (protocol_origin (said c.args.command)) c.in-Ok.text.items in
    c.reply_to_reading.ensures.quiet words c.in-Ok.text.items
    (record { reliable = c.in-Ok.ensures.reliable ∙ ends.reliable; tells = subst (TellsTexts words) (sym c.in-Ok.ensures.told) ends.tells }) asked
    (subst Q (sym c.in-Ok.ensures.told) (subst P c.protocol_origin.ensures.origin c.in-Ok.ensures.text))
    (subst (IsReadingOf c.in-Ok.text.items) (sym c.deref.ensures)
    (subst (λ (text : List ℕ). IsReadingOf text c.in_ok-reading.reading.value) c.as_slice.ensures.value c.in_ok-reading.ensures))
    ∙ c.in-Ok.ensures.no_fault ends.reliable
    (subst (IsToldOrigin told) (sym c.protocol_origin.ensures.origin) (first_told words told ends.tells (said c.args.command) asked))
