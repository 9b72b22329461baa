use Rattle.word_automata.proofs.ForCallers.{in_range_lettered}
use Rattle.boolean_operations.proofs.finite_automaton.DfaFiniteAutomaton.states.Goals as goal

pub returns-clause-in_range : goal.returns-clause-in_range
returns-clause-in_range c = in_range_lettered c.args.self.now c.states.ensures.valid
