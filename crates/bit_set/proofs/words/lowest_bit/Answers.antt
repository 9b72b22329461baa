use Rattle.std.proofs.Common.{w64}
use Rattle.std.proofs.lemmas.Nat.Bits.{bit_at-trailing_zeros}
use Rattle.bit_set.proofs.words.lowest_bit.Goals as goal

pub returns-clause-bit : goal.returns-clause-bit
returns-clause-bit c = let lowest = bit_at-trailing_zeros w64 c.args.word c.requires c.ranges.word.fits in lowest.1
