use Rattle.std.proofs.Common.{rules, ◌∙◌, sym, ap, refl, option_map}
use Rattle.command_words.specs.Words.{show}
use Rattle.command_words.proofs.Given.{gives_none}
use Rattle.command_words.proofs.commands.show_in.Goals as goal

pub returns-in_err-file : goal.returns-in_err-file
returns-in_err-file c bound has =
    gives_none c.from_residual.result _ (search rules)
    (ap (option_map show) (sym (c.value_in.ensures bound has refl) ∙ ap (option_map (λ s. s.now)) c.in_err-file.was))

pub returns : goal.returns
returns c bound has =
    ap (option_map show) (sym (c.value_in.ensures bound has refl) ∙ ap (option_map (λ s. s.now)) c.in_ok-file.was)
