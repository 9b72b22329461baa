use Rattle.protocol_search.proofs.Rounds.{refutes_once}
use Rattle.protocol_search.proofs.law.no_language_is_refuted_twice.Goals as goal

pub returns : goal.returns
returns c = refutes_once
