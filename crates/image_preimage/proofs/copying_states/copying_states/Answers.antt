use Rattle.std.proofs.Common.{subst}
use Rattle.image_preimage.specs.private.CopyingStates.{AreCopying}
use Rattle.image_preimage.proofs.copying_states.copying_states.Goals as goal

pub returns-then-are_copying : goal.returns-then-are_copying
returns-then-are_copying c = subst (AreCopying c.args.t.now) c.deref.ensures.value (c.are_copying.ensures c.if-are_copying.true)
