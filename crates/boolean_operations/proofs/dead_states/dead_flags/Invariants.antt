use Rattle.std.proofs.Common.{◌≡◌, length}
use Rattle.boolean_operations.proofs.dead_states.dead_flags.Given as goal

abbrev pub invariant-passes : goal.invariant-passes
invariant-passes g l = length l.flags.items ≡ length (g.A.FiniteAutomaton.automaton l.automaton).states
