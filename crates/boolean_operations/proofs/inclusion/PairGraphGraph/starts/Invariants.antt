use Rattle.std.proofs.Common.{[]}
use Rattle.boolean_operations.specs.private.Search.{Gathers}
use Rattle.boolean_operations.specs.private.PairGraph.{IsPair, IsAmong, StartsAt}
use Rattle.boolean_operations.proofs.inclusion.PairGraphGraph.starts.Given as goal

abbrev pub invariant-starts : goal.invariant-starts
invariant-starts g l =
    Gathers (IsPair (g.A.FiniteAutomaton.automaton l.self.left.now) l.self.right.now)
    (IsAmong (StartsAt l.self.right.now) (g.A.FiniteAutomaton.automaton l.self.left.now).starts l.left-index)
    [] l.pairs.items
