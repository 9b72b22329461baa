use Rattle.std.proofs.Common.{◌≡◌}
use Rattle.reduction.proofs.Copies.{first_alone}
use Rattle.reduction.proofs.copying.states_alone.Given as goal

abbrev pub invariant-states : goal.invariant-states
invariant-states l = l.builder ≡ first_alone l.automaton l.state
