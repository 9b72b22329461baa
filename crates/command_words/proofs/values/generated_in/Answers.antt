use Rattle.std.proofs.Common.{rules, ◌≡◌, ◌∙◌, sym, ap, refl, None, option_map}
use Rattle.std.specs.Prelude.{option_and_then}
use Rattle.command_words.specs.Words.{most_generated, number_in}
use Rattle.command_words.proofs.values.generated_in.Goals as goal

pub returns-in_err-word : goal.returns-in_err-word
returns-in_err-word c bound has =
    let none : c.from_residual.result ≡ None = search rules in
    none ∙ ap (option_and_then (number_in 1 most_generated))
    (sym (sym (c.value_in.ensures bound has refl) ∙ ap (option_map (λ s. s.now)) c.in_err-word.was))

pub returns : goal.returns
returns c bound has =
    c.number_between.ensures
    ∙ ap (option_and_then (number_in 1 most_generated))
    (sym (sym (c.value_in.ensures bound has refl) ∙ ap (option_map (λ s. s.now)) c.in_ok-word.was))
