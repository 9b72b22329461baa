use Rattle.std.proofs.Common.{◌≡◌, ◌++◌, take}
use Rattle.protocol_model.specs.Words.{raised}
use Rattle.configuration_words.proofs.encoding.push_raised.Given as goal

abbrev pub invariant-letters : goal.invariant-letters
invariant-letters l = l.word.items ≡ l.initial.word.items ++ raised l.offset (take l.letter-index l.list)
