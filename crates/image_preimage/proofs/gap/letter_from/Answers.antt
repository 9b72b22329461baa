use Rattle.image_preimage.proofs.GapLemmas.{not_below}
use Rattle.image_preimage.proofs.gap.letter_from.Goals as goal

pub returns-then-place-edges : goal.returns-then-place-edges
returns-then-place-edges c j from within = not_below c.args.edges.now c.requires c.args.place j from within
