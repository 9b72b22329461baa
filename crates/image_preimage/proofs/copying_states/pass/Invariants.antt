use Rattle.std.proofs.Common.{◌≡◌, length}
use Rattle.image_preimage.proofs.copying_states.pass.Given as goal

abbrev pub invariant-states : goal.invariant-states
invariant-states l = length l.flags ≡ length l.t.states
