use Rattle.property_batch.proofs.VerdictLists.{by-number}
use Rattle.property_batch.proofs.law.verdicts_by_number.Goals as goal

pub returns : goal.returns
returns c = by-number
