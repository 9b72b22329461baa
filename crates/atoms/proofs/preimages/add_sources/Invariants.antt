use Rattle.std.proofs.Common.{◌≡◌, get_or}
use Rattle.bit_set.specs.SetLists.{HasAt, HasRoom}
use Rattle.bit_set.proofs.ForCallers.{AddsFirst}
use Rattle.atoms.proofs.preimages.add_sources.Given as goal

abbrev pub invariant-edges : goal.invariant-edges
invariant-edges l = AddsFirst HasAt HasRoom (λ m a j. (a ≡ (get_or l.edges m (0, 0)).0) × (j ≡ (get_or l.edges m (0, 0)).1)) l.letter-index l.fn.sets.items l.sets.items
