use Rattle.std.proofs.Common.{take}
use Rattle.reduction.specs.private.Renumbering.{AddsPlacedStarts}
use Rattle.reduction.proofs.renumbering.add_placed_starts.Given as goal

abbrev pub invariant-numbers : goal.invariant-numbers
invariant-numbers l = AddsPlacedStarts l.states (take l.number-index l.numbers) l.fn.builder l.builder
