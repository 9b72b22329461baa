use Rattle.std.proofs.Common.{rules, ◌≡◌, ◌∙◌, sym, refl, ap, ap₂, None, option_map}
use Rattle.command_words.specs.Words.{two_of, value_of}
use Rattle.command_words.proofs.commands.two_in.Goals as goal

pub returns-in_err-file : goal.returns-in_err-file
returns-in_err-file c bound has other_plain command =
    let none : c.from_residual.result ≡ None = search rules in
    ap (option_map _) none
    ∙ sym (ap (λ x. two_of command x (value_of c.args.other.now bound))
    (sym (c.value_in.ensures bound has refl) ∙ ap (option_map (λ s. s.now)) c.in_err-file.was))

pub returns-in_err-other : goal.returns-in_err-other
returns-in_err-other c bound has other_plain command =
    let none : c.from_residual-in_err-other.result ≡ None = search rules in
    ap (option_map _) none
    ∙ sym (ap₂ (two_of command) (sym (c.value_in.ensures bound has refl) ∙ ap (option_map (λ s. s.now)) c.in_ok-file.was)
    (sym (c.value_in-2.ensures bound has other_plain) ∙ ap (option_map (λ s. s.now)) c.in_err-other.was))

pub returns : goal.returns
returns c bound has other_plain command =
    sym (ap₂ (two_of command) (sym (c.value_in.ensures bound has refl) ∙ ap (option_map (λ s. s.now)) c.in_ok-file.was)
    (sym (c.value_in-2.ensures bound has other_plain) ∙ ap (option_map (λ s. s.now)) c.in_ok-other.was))
