use Rattle.std.proofs.Common.{◌≡◌, length}
use Rattle.boolean_operations.proofs.dead_states.pass.Given as goal

abbrev pub invariant-states : goal.invariant-states
invariant-states g l = length l.flags ≡ length (g.A.FiniteAutomaton.automaton l.automaton).states
