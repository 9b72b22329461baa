use Rattle.configuration_words.proofs.TextLemmas.{IsWritten}
use Rattle.configuration_words.proofs.texts.configuration_text.Given as goal

abbrev pub invariant-sections : goal.invariant-sections
invariant-sections l = IsWritten l.system l.configuration.lists l.index l.text.items
