use Rattle.protocol_search.proofs.Rounds.{bounded-by-keys}
use Rattle.protocol_search.proofs.law.keys_bound_rounds.Goals as goal

pub returns : goal.returns
returns c = bounded-by-keys
