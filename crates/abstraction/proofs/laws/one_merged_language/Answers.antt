use Rattle.abstraction.proofs.FactLemmas.{facts_determine_words}
use Rattle.abstraction.proofs.laws.one_merged_language.Goals as goal

pub returns : goal.returns
returns c = facts_determine_words
