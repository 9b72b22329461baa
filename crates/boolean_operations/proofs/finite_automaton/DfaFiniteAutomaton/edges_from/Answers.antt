use Rattle.std.proofs.Common.{[], false, ap, ◌∙◌}
use Rattle.word_automata.specs.Nondeterministic.{lettered_edges}
use Rattle.boolean_operations.proofs.ReadEdges.{read_edges}
use Rattle.boolean_operations.proofs.finite_automaton.DfaFiniteAutomaton.edges_from.Goals as goal

pub returns : goal.returns
returns c =
    ap lettered_edges c.edges_from.ensures.edges ∙ read_edges c.args.self.now c.args.state c.requires (record { accepting = false; edges = [] })
