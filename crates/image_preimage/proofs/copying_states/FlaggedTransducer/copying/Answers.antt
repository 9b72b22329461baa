use Rattle.std.proofs.Common.{sym, subst}
use Rattle.image_preimage.specs.private.CopyingStates.{AreCopying}
use Rattle.image_preimage.proofs.copying_states.FlaggedTransducer.copying.Goals as goal

pub returns : goal.returns
returns c =
    subst (λ flags. AreCopying c.args.self.now flags) (sym c.as_slice.ensures.value)
    (subst (λ t. AreCopying t c.self.inside.copying.items) c.self.view_is c.self.invariant)
