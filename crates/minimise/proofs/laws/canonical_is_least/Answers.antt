use Rattle.minimise.proofs.Unique.{is_least}
use Rattle.minimise.proofs.laws.canonical_is_least.Goals as goal

pub returns : goal.returns
returns c = is_least
