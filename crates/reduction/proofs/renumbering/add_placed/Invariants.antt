use Rattle.std.proofs.Common.{take}
use Rattle.reduction.specs.private.Renumbering.{AddsPlaced}
use Rattle.reduction.proofs.renumbering.add_placed.Given as goal

abbrev pub invariant-edges : goal.invariant-edges
invariant-edges l = AddsPlaced l.states l.place (take l.letter-index l.edges) l.fn.builder l.builder
