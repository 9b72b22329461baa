use Rattle.std.proofs.Common.{◌≡◌, take}
use Rattle.determinise.specs.Digest.{digest}
use Rattle.determinise.proofs.state_set.digest.Given as goal

abbrev pub invariant-states : goal.invariant-states
invariant-states l = l.number ≡ digest (take l.state-index l.states)
