use Rattle.std.proofs.Common.{rules, ◌≡◌, ◌∙◌, sym, ap, None, option_map}
use Rattle.command_words.specs.declared.Query.TheVariants.{Check}
use Rattle.command_words.proofs.commands.check_query_in.Goals as goal

pub returns-in_err-settings : goal.returns-in_err-settings
returns-in_err-settings c bound has =
    let none : c.from_residual.result ≡ None = search rules in
    none ∙ ap (option_map Check) (sym c.in_err-settings.was ∙ c.settings_in.ensures bound has)

pub returns : goal.returns
returns c bound has = ap (option_map Check) (sym c.in_ok-settings.was ∙ c.settings_in.ensures bound has)
