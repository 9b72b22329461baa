use Rattle.std.proofs.Common.{rules, ◌≡◌, ◌∙◌, sym, ap, None, Some, option_map}
use Rattle.command_words.specs.declared.Query.TheVariants.{Past}
use Rattle.command_words.proofs.commands.past_query_in.Goals as goal

pub returns-in_err-bound : goal.returns-in_err-bound
returns-in_err-bound c bound has =
    let none : c.from_residual.result ≡ None = search rules in
    none ∙ ap (option_map Past) (sym c.in_err-bound.was ∙ c.bound_in.ensures bound has)

pub returns : goal.returns
returns c bound has =
    let widened : c.from.result ≡ c.in_ok-bound.bound = search rules in
    ap (option_map Past) (ap Some widened ∙ sym c.in_ok-bound.was ∙ c.bound_in.ensures bound has)
