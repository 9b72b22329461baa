use Rattle.std.proofs.Common.{[]}
use Rattle.word_automata.specs.Path.{edges_of}
use Rattle.boolean_operations.specs.private.Search.{Gathers}
use Rattle.boolean_operations.specs.private.PairGraph.{IsPair, IsAmong, LeadsSilently}
use Rattle.boolean_operations.proofs.inclusion.PairGraphGraph.silent_targets.Given as goal

abbrev pub invariant-edges : goal.invariant-edges
invariant-edges g l =
    Gathers (IsPair (g.A.FiniteAutomaton.automaton l.self.left.now) l.self.right.now)
    (IsAmong (LeadsSilently l.self.dead.now l.right) (edges_of (g.A.FiniteAutomaton.automaton l.self.left.now).states l.left) l.edge-index)
    [] l.targets.items
