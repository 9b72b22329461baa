use Rattle.armc_commands.proofs.BudgetLemmas.{larger-keeps-reply, larger-keeps-parts}
use Rattle.armc_commands.proofs.law.larger_budget_keeps_reply.Goals as goal

pub returns-clause-query : goal.returns-clause-query
returns-clause-query c =
    larger-keeps-reply c.one_reading.ensures.protocol c.one_reading.ensures.fault c.one_reading.ensures.either
    c.larger_budget_keeps_verdict.ensures.verdict c.larger_budget_keeps_verdict.ensures.text

pub returns-clause-parts : goal.returns-clause-parts
returns-clause-parts c =
    larger-keeps-parts c.one_reading.ensures.protocol c.one_reading.ensures.fault c.one_reading.ensures.either
    c.larger_budget_keeps_verdict.ensures.verdict c.larger_budget_keeps_verdict.ensures.text c.one_reading_of_properties.ensures.properties
    c.one_reading_of_properties.ensures.fault c.one_reading_of_properties.ensures.either
