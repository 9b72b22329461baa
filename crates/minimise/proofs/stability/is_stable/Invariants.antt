use Rattle.std.proofs.Common.{◌<◌, ℕ}
use Rattle.minimise.specs.private.Rounds.{IsLikeLeast}
use Rattle.minimise.proofs.stability.is_stable.Given as goal

abbrev pub invariant-states : goal.invariant-states
invariant-states l = (q : ℕ) → q < l.state → IsLikeLeast l.automaton l.classes q
