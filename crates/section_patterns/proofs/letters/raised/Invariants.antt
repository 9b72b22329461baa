use Rattle.std.proofs.Common.{◌≡◌, take}
use Rattle.protocol_model.specs.Words.{raised}
use Rattle.section_patterns.proofs.letters.raised.Given as goal

abbrev pub invariant-letters : goal.invariant-letters
invariant-letters l = l.copies.items ≡ raised l.offset (take l.letter-index l.letters)
