use Rattle.std.proofs.Common.{get_or}
use Rattle.bit_set.specs.SetLists.{HasAt, HasRoom}
use Rattle.bit_set.proofs.ForCallers.{AddsFirst}
use Rattle.atoms.specs.private.Places.{IsSource}
use Rattle.atoms.proofs.preimages.add_preimages.Given as goal

abbrev pub invariant-places : goal.invariant-places
invariant-places l = AddsFirst HasAt HasRoom (λ m. IsSource l.into l.used (get_or l.places m 0)) l.place-index l.fn.sets.items l.sets.items
