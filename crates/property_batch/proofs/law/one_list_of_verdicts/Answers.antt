use Rattle.property_batch.proofs.VerdictLists.{once}
use Rattle.property_batch.proofs.law.one_list_of_verdicts.Goals as goal

pub returns : goal.returns
returns c = once
