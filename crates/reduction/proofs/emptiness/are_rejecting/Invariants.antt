use Rattle.std.proofs.Common.{◌<◌, ℕ}
use Rattle.reduction.specs.private.Emptiness.{IsRejectingAt}
use Rattle.reduction.proofs.emptiness.are_rejecting.Given as goal

abbrev pub invariant-states : goal.invariant-states
invariant-states l = (p : ℕ) → p < l.state → IsRejectingAt l.automaton l.flags p
