use Rattle.protocol_search.proofs.Budgets.{larger-keeps, larger-keeps-text}
use Rattle.protocol_search.proofs.law.larger_budget_keeps_verdict.Goals as goal

pub returns-clause-verdict : goal.returns-clause-verdict
returns-clause-verdict c = larger-keeps

pub returns-clause-text : goal.returns-clause-text
returns-clause-text c = larger-keeps-text
