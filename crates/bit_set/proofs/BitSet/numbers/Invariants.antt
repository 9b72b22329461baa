use Rattle.bit_set.specs.Bits.{Has}
use Rattle.bit_set.proofs.Sets.{AreNumbers}
use Rattle.bit_set.proofs.BitSet.numbers.Given as goal

abbrev pub invariant-words : goal.invariant-words
invariant-words l = AreNumbers (Has l.self) l.numbers.items l.at
