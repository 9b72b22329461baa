use Rattle.std.proofs.Common.{◌≡◌, length}
use Rattle.image_preimage.proofs.copying_states.copying_states.Given as goal

abbrev pub invariant-passes : goal.invariant-passes
invariant-passes l = length l.flags.items ≡ length l.t.states
