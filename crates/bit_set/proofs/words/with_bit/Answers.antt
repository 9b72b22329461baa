use Rattle.bit_set.proofs.Bits.{adds_bit}
use Rattle.bit_set.proofs.words.with_bit.Goals as goal

pub returns : goal.returns
returns c = adds_bit c.args.word c.args.bit c.requires
