use Rattle.bit_set.proofs.Bits.{common_bits_same}
use Rattle.bit_set.proofs.words.common_bits.Goals as goal

pub returns : goal.returns
returns c = common_bits_same c.args.word c.args.other
