use Rattle.protocol_search.proofs.Rounds.{verdict-from, verdict-of-histories}
use Rattle.protocol_search.proofs.law.verdicts_have_histories.Goals as goal

pub returns-clause-histories : goal.returns-clause-histories
returns-clause-histories c = verdict-from

pub returns-clause-no_others : goal.returns-clause-no_others
returns-clause-no_others c = verdict-of-histories
