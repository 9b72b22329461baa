use Rattle.reduction.specs.private.Renumbering.{AreUnflaggedBelow}
use Rattle.reduction.proofs.trimming.live_states.Given as goal

abbrev pub invariant-states : goal.invariant-states
invariant-states l = AreUnflaggedBelow l.dead l.state l.states.items
