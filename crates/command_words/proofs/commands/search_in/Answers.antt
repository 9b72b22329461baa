use Rattle.std.proofs.Common.{rules, ◌∙◌, sym, refl, ap, option_map}
use Rattle.command_words.specs.Words.{limits_given, searching_of}
use Rattle.command_words.proofs.Given.{gives_none}
use Rattle.command_words.proofs.commands.search_in.Goals as goal

pub returns-in_err-file : goal.returns-in_err-file
returns-in_err-file c bound has =
    let file = sym (c.value_in.ensures bound has refl) ∙ ap (option_map (λ s. s.now)) c.in_err-file.was in
    gives_none c.from_residual.result _ (search rules) (λ i. searching_of (file i) c.args.query (limits_given bound))

pub returns-in_err-query : goal.returns-in_err-query
returns-in_err-query c bound has =
    let file = sym (c.value_in.ensures bound has refl) ∙ ap (option_map (λ s. s.now)) c.in_ok-file.was in
    gives_none c.from_residual-in_err-query.result _ (search rules) (λ i. searching_of (file i) (c.in_err-query.was i) (limits_given bound))

pub returns-in_err-limits : goal.returns-in_err-limits
returns-in_err-limits c bound has =
    let file = sym (c.value_in.ensures bound has refl) ∙ ap (option_map (λ s. s.now)) c.in_ok-file.was in
    let limits = sym (c.limits_in.ensures bound has) ∙ c.in_err-limits.was in
    gives_none c.from_residual-in_err-limits.result _ (search rules) (λ i. searching_of (file i) (c.in_ok-query.was i) (limits i))

pub returns : goal.returns
returns c bound has =
    let file = sym (c.value_in.ensures bound has refl) ∙ ap (option_map (λ s. s.now)) c.in_ok-file.was in
    let limits = sym (c.limits_in.ensures bound has) ∙ c.in_ok-limits.was in
    λ i. searching_of (file i) (c.in_ok-query.was i) (limits i)
