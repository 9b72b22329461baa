use Rattle.predicate_abstraction.proofs.SignatureLaws
use Rattle.predicate_abstraction.proofs.laws.related_by_signature.Goals as goal

pub returns-clause-related : goal.returns-clause-related
returns-clause-related c = SignatureLaws.related_by_signature

pub returns-clause-shared : goal.returns-clause-shared
returns-clause-shared c = SignatureLaws.shares_word_tells
