use Rattle.protocol_search.proofs.Rounds.{bounded-by-runs, logs-bounded}
use Rattle.protocol_search.proofs.law.runs_bound_rounds.Goals as goal

pub returns-clause-histories : goal.returns-clause-histories
returns-clause-histories c = bounded-by-runs

pub returns-clause-logs : goal.returns-clause-logs
returns-clause-logs c = logs-bounded
