use Rattle.minimise.proofs.Unique.{is_unique}
use Rattle.minimise.proofs.laws.canonical_is_unique.Goals as goal

pub returns : goal.returns
returns c = is_unique
