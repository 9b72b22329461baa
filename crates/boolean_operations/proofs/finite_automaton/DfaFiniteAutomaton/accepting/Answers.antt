use Rattle.std.proofs.Common.{[], false, ◌∙◌}
use Rattle.boolean_operations.proofs.ReadEdges.{read_accepting}
use Rattle.boolean_operations.proofs.finite_automaton.DfaFiniteAutomaton.accepting.Goals as goal

pub returns : goal.returns
returns c = c.accepting.ensures ∙ read_accepting c.args.self.now c.args.state c.requires (record { accepting = false; edges = [] })
