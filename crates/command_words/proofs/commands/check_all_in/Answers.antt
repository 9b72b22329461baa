use Rattle.std.proofs.Common.{ℕ, List, rules, ◌∙◌, sym, ap, refl, option_map}
use Rattle.std.specs.Prelude.{option_and_then}
use Rattle.command_words.specs.Words.{Command, checking_all, checking_all_of}
use Rattle.command_words.proofs.Given.{gives_none}
use Rattle.command_words.proofs.commands.check_all_in.Goals as goal

pub returns-in_err-limits : goal.returns-in_err-limits
returns-in_err-limits c bound has =
    gives_none c.from_residual.result _ (search rules)
    (ap (option_and_then (checking_all_of bound)) (sym (c.limits_in.ensures bound has) ∙ c.in_err-limits.was))

pub returns-in_err-file : goal.returns-in_err-file
returns-in_err-file c bound has =
    let command : List ℕ → List ℕ → Command = λ file properties. checking_all file properties c.in_ok-limits.limits in
    gives_none c.from_residual-in_err-file.result _ (search rules)
    (ap (option_and_then (checking_all_of bound)) (sym (c.limits_in.ensures bound has) ∙ c.in_ok-limits.was)
    ∙ sym (c.two_in.ensures bound has refl command) ∙ ap (option_map (λ words. command words.0.now words.1.now)) c.in_err-file.was)

pub returns : goal.returns
returns c bound has =
    let command : List ℕ → List ℕ → Command = λ file properties. checking_all file properties c.in_ok-limits.limits in
    ap (option_and_then (checking_all_of bound)) (sym (c.limits_in.ensures bound has) ∙ c.in_ok-limits.was)
    ∙ sym (c.two_in.ensures bound has refl command) ∙ ap (option_map (λ words. command words.0.now words.1.now)) c.in_ok-file.was
