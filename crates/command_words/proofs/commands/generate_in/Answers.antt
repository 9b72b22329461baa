use Rattle.std.proofs.Common.{rules, ◌∙◌, sym, ap, ap₂}
use Rattle.command_words.specs.Words.{generate_of, workers_given}
use Rattle.command_words.proofs.Given.{gives_none}
use Rattle.command_words.proofs.commands.generate_in.Goals as goal

pub returns-in_err-number : goal.returns-in_err-number
returns-in_err-number c bound has =
    gives_none c.from_residual.result _ (search rules)
    (ap (λ x. generate_of x (workers_given bound)) (sym (c.generated_in.ensures bound has) ∙ c.in_err-number.was))

pub returns-in_err-workers : goal.returns-in_err-workers
returns-in_err-workers c bound has =
    gives_none c.from_residual-in_err-workers.result _ (search rules)
    (ap₂ generate_of (sym (c.generated_in.ensures bound has) ∙ c.in_ok-number.was)
    (sym (c.workers_in.ensures bound has) ∙ c.in_err-workers.was))

pub returns : goal.returns
returns c bound has =
    ap₂ generate_of (sym (c.generated_in.ensures bound has) ∙ c.in_ok-number.was)
    (sym (c.workers_in.ensures bound has) ∙ c.in_ok-workers.was)
