use Rattle.configuration_words.proofs.EncodingLemmas.{IsEncoded}
use Rattle.configuration_words.proofs.encoding.encode.Given as goal

abbrev pub invariant-sections : goal.invariant-sections
invariant-sections l = IsEncoded l.system l.configuration.lists l.index l.offset l.word.items
