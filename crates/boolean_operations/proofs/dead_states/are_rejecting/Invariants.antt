use Rattle.std.proofs.Common.{◌<◌, ℕ}
use Rattle.boolean_operations.specs.private.DeadStates.{IsRejectingAt}
use Rattle.boolean_operations.proofs.dead_states.are_rejecting.Given as goal

abbrev pub invariant-states : goal.invariant-states
invariant-states g l = (p : ℕ) → p < l.state → IsRejectingAt (g.A.FiniteAutomaton.automaton l.automaton) l.flags p
