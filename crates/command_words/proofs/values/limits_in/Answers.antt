use Rattle.std.proofs.Common.{rules, ◌≡◌, ◌∙◌, sym, ap, None, Some}
use Rattle.command_words.specs.Words.{limits_from, workers_given}
use Rattle.command_words.proofs.values.limits_in.Goals as goal

pub returns-in_err-budget : goal.returns-in_err-budget
returns-in_err-budget c bound has =
    let none : c.from_residual.result ≡ None = search rules in
    let budget = sym c.in_err-budget.was ∙ c.budget_in.ensures bound has in
    none ∙ (λ i. limits_from (budget i) (workers_given bound))

pub returns-in_err-workers : goal.returns-in_err-workers
returns-in_err-workers c bound has =
    let none : c.from_residual-in_err-workers.result ≡ None = search rules in
    let budget = sym c.in_ok-budget.was ∙ c.budget_in.ensures bound has in
    let workers = sym c.in_err-workers.was ∙ c.workers_in.ensures bound has in
    none ∙ (λ i. limits_from (budget i) (workers i))

pub returns : goal.returns
returns c bound has =
    let widened : c.from.result ≡ c.in_ok-budget.budget = search rules in
    let budget = ap Some widened ∙ sym c.in_ok-budget.was ∙ c.budget_in.ensures bound has in
    let workers = sym c.in_ok-workers.was ∙ c.workers_in.ensures bound has in
    λ i. limits_from (budget i) (workers i)
