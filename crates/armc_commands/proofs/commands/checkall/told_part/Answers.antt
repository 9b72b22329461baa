use Rattle.std.proofs.Common.{◌∙◌, Some, List, ℕ, refl, ap}
use Rattle.std.proofs.lemmas.Result.{IfOk-weaker}
use Rattle.armc_commands.specs.SearchReply.{titled}
use Rattle.armc_commands.specs.private.PartTexts.{IsToldPart}
use Rattle.armc_commands.proofs.commands.checkall.told_part.Goals as goal

pub verdict_text-requires-clause-sound : goal.verdict_text-requires-clause-sound
verdict_text-requires-clause-sound c =
    c.property_verdicts_show.ensures.sound c.args.budget c.args.property.now c.args.verdict.now c.requires.verdict

pub returns : goal.returns
returns c =
    IfOk-weaker c.with_title.result _ (λ made. IsToldPart c.args.budget c.args.property.now c.args.verdict.now made.items)
    (λ made titled_is. record {
      answer = record { verdict = c.args.verdict.now; text = c.in_ok-certificate.certificate.items };
      is_answer = record { is_verdict = c.requires.verdict; is_told = c.in_ok-certificate.ensures };
      verdict_is = refl;
      text_is = titled_is ∙ ap (λ (text : List ℕ). titled (Some c.as_str.result.now) text) c.as_slice.ensures.value
          ∙ ap (λ (n : List ℕ). titled (Some n) c.in_ok-certificate.certificate.items) c.as_str.ensures;
    }) c.with_title.ensures
