use Rattle.protocol_search.proofs.ByAnalysis.{text-once}
use Rattle.protocol_search.proofs.Rounds.{verdict-once}
use Rattle.protocol_search.proofs.law.one_verdict.Goals as goal

pub returns-clause-verdict : goal.returns-clause-verdict
returns-clause-verdict c = verdict-once

pub returns-clause-text : goal.returns-clause-text
returns-clause-text c = text-once
