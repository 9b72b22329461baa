use Rattle.std.proofs.Common.{get_or}
use Rattle.bit_set.specs.SetLists.{HasAt, HasRoom}
use Rattle.bit_set.proofs.ForCallers.{AddsFirst}
use Rattle.atoms.specs.private.Rows.{IsNumberAt}
use Rattle.atoms.proofs.rows.add_number.Given as goal

abbrev pub invariant-places : goal.invariant-places
invariant-places l = AddsFirst HasAt HasRoom (λ m. IsNumberAt l.used l.number (get_or l.places m 0)) l.place-index l.fn.rows.items l.rows.items
