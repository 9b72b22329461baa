use Rattle.std.proofs.Common.{take}
use Rattle.reduction.specs.private.Copies.{AddsEdges}
use Rattle.reduction.proofs.copying.add_edges.Given as goal

abbrev pub invariant-edges : goal.invariant-edges
invariant-edges l = AddsEdges l.state (take l.letter-index l.edges) l.fn.builder l.builder
