use Rattle.future_abstraction.proofs.SignatureLemmas
use Rattle.future_abstraction.proofs.laws.related_by_signature.Goals as goal

pub returns : goal.returns
returns c = SignatureLemmas.related_by_signature
