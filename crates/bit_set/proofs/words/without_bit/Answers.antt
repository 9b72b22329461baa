use Rattle.bit_set.proofs.Bits.{takes_bit}
use Rattle.bit_set.proofs.words.without_bit.Goals as goal

pub returns : goal.returns
returns c = takes_bit c.args.word c.args.bit c.ranges.word.fits c.requires.within c.requires.bit
