use Rattle.bit_set.proofs.Sets.{AreNumbers, HaveBoth}
use Rattle.bit_set.proofs.BitSet.common_numbers.Given as goal

abbrev pub invariant-words : goal.invariant-words
invariant-words l = AreNumbers (HaveBoth l.self l.other) l.numbers.items l.at
