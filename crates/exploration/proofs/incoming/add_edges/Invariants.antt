use Rattle.exploration.proofs.Chains.{IsAddingEdges}
use Rattle.exploration.proofs.incoming.add_edges.Given as goal

abbrev pub invariant-edges : goal.invariant-edges
invariant-edges l = IsAddingEdges l.fn.last.items l.fn.edges.items l.last.items l.edges.items l.leaving l.state l.letter-index
