use Rattle.image_preimage.proofs.GapLemmas.{before_all}
use Rattle.image_preimage.proofs.gap.Gap.new.Goals as goal

pub returns : goal.returns
returns c = before_all c.args.edges.now c.letter_from.result c.letter_from.ensures
