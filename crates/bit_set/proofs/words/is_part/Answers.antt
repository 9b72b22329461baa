use Rattle.std.proofs.Common.{eqb-true, eq-eqb}
use Rattle.bit_set.proofs.Bits.{part_same, same_part}
use Rattle.bit_set.proofs.words.is_part.Goals as goal

pub returns : goal.returns
returns c = (λ t. part_same c.args.word c.args.other (eqb-true _ _ t), λ part. eq-eqb _ _ (same_part c.args.word c.args.other c.ranges.word.fits part))
