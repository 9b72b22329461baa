use Rattle.protocol_search.proofs.Rounds.{history-once}
use Rattle.protocol_search.proofs.law.one_history.Goals as goal

pub returns : goal.returns
returns c = history-once
