use Rattle.word_automata.proofs.ForCallers.{in_range_lettered}
use Rattle.boolean_operations.proofs.finite_automaton.DfaFiniteAutomaton.starts.Goals as goal

pub returns-else-states-eq0-clause-in_range : goal.returns-else-states-eq0-clause-in_range
returns-else-states-eq0-clause-in_range c = in_range_lettered c.args.self.now c.states.ensures.valid
