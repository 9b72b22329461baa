use Rattle.std.proofs.Common.{◌<◌, ℕ}
use Rattle.image_preimage.specs.private.CopyingStates.{IsCopyingAt}
use Rattle.image_preimage.proofs.copying_states.are_copying.Given as goal

abbrev pub invariant-states : goal.invariant-states
invariant-states l = (p : ℕ) → p < l.state → IsCopyingAt l.t l.flags p
