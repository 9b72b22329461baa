use Rattle.std.proofs.Common.{take}
use Rattle.past_abstraction.specs.private.WordSets.{PutsEdges}
use Rattle.past_abstraction.proofs.images.put_edges.Given as goal

abbrev pub invariant-edges : goal.invariant-edges
invariant-edges l = PutsEdges (take l.letter-index l.edges) l.fn.lists.items l.lists.items
