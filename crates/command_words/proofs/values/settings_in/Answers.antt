use Rattle.std.proofs.Common.{rules, ◌≡◌, ◌∙◌, sym, ap, refl, None, Some, codes}
use Rattle.command_words.specs.declared.Method.TheVariants.{Predicates}
use Rattle.command_words.specs.declared.Start.TheVariants.{Bad}
use Rattle.command_words.specs.Words.{bound_given, chosen, given, is_true, methods, settings_from, start_given, starts, value_of}
use Rattle.command_words.proofs.values.settings_in.Goals as goal

pub returns-in_err-method : goal.returns-in_err-method
returns-in_err-method c bound has =
    let none : c.from_residual.result ≡ None = search rules in
    let method = sym c.in_err-method.was ∙ c.method_or.ensures ∙ ap (given Predicates (chosen methods)) (c.value_in.ensures bound has refl) in
    none ∙ (λ i. settings_from (method i) (start_given bound) (bound_given bound) (is_true (value_of (codes "report") bound)))

pub returns-in_err-start : goal.returns-in_err-start
returns-in_err-start c bound has =
    let none : c.from_residual-in_err-start.result ≡ None = search rules in
    let method = sym c.in_ok-method.was ∙ c.method_or.ensures ∙ ap (given Predicates (chosen methods)) (c.value_in.ensures bound has refl) in
    let start = sym c.in_err-start.was ∙ c.start_or.ensures ∙ ap (given Bad (chosen starts)) (c.value_in-2.ensures bound has refl) in
    none ∙ (λ i. settings_from (method i) (start i) (bound_given bound) (is_true (value_of (codes "report") bound)))

pub returns-in_err-bound : goal.returns-in_err-bound
returns-in_err-bound c bound has =
    let none : c.from_residual-in_err-bound.result ≡ None = search rules in
    let method = sym c.in_ok-method.was ∙ c.method_or.ensures ∙ ap (given Predicates (chosen methods)) (c.value_in.ensures bound has refl) in
    let start = sym c.in_ok-start.was ∙ c.start_or.ensures ∙ ap (given Bad (chosen starts)) (c.value_in-2.ensures bound has refl) in
    let most = sym c.in_err-bound.was ∙ c.bound_in.ensures bound has in
    none ∙ (λ i. settings_from (method i) (start i) (most i) (is_true (value_of (codes "report") bound)))

pub returns : goal.returns
returns c bound has =
    let widened : c.from.result ≡ c.in_ok-bound.bound = search rules in
    let method = sym c.in_ok-method.was ∙ c.method_or.ensures ∙ ap (given Predicates (chosen methods)) (c.value_in.ensures bound has refl) in
    let start = sym c.in_ok-start.was ∙ c.start_or.ensures ∙ ap (given Bad (chosen starts)) (c.value_in-2.ensures bound has refl) in
    let most = ap Some widened ∙ sym c.in_ok-bound.was ∙ c.bound_in.ensures bound has in
    let report = c.report_in-report.ensures bound has in
    λ i. settings_from (method i) (start i) (most i) (report i)
