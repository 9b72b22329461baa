use Rattle.std.proofs.Common.{take}
use Rattle.bit_set.specs.private.Words.{IsWordOfAll}
use Rattle.bit_set.proofs.word_of_all.Given as goal

abbrev pub invariant-places : goal.invariant-places
invariant-places l = IsWordOfAll l.sets (take l.place-index l.places) l.at l.word
