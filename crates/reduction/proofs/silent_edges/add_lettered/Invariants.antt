use Rattle.std.proofs.Common.{take}
use Rattle.reduction.specs.private.SilentMoves.{AddsLettered}
use Rattle.reduction.proofs.silent_edges.add_lettered.Given as goal

abbrev pub invariant-edges : goal.invariant-edges
invariant-edges l = AddsLettered (take l.letter-index l.edges) l.fn.moves.items l.moves.items
