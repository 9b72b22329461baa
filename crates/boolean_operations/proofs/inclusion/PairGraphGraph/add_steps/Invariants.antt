use Rattle.std.proofs.Common.{ℕ, Option}
use Rattle.word_automata.specs.Path.{edges_of}
use Rattle.boolean_operations.specs.private.Search.{Gathers}
use Rattle.boolean_operations.specs.private.PairGraph.{IsPair, IsAmong, LeadsByLetter}
use Rattle.boolean_operations.proofs.inclusion.PairGraphGraph.add_steps.Given as goal

abbrev pub invariant-edges : goal.invariant-edges
invariant-edges g l =
    Gathers {X = ℕ × (ℕ × Option ℕ)} (λ step. IsPair (g.A.FiniteAutomaton.automaton l.self.left.now) l.self.right.now step.1)
    (IsAmong (LeadsByLetter l.self.dead.now l.self.right.now l.state.1) (edges_of (g.A.FiniteAutomaton.automaton l.self.left.now).states l.left) l.edge-index)
    l.fn.steps.items l.steps.items
