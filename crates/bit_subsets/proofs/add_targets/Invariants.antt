use Rattle.std.proofs.Common.{◌≡◌, Some, None, get_or, length}
use Rattle.bit_set.specs.SetLists.{HasAt, IsInTable}
use Rattle.bit_set.proofs.ForCallers.{AddsFirst}
use Rattle.bit_subsets.proofs.add_targets.Given as goal

abbrev pub invariant-edges : goal.invariant-edges
invariant-edges l = AddsFirst HasAt (IsInTable (length l.empty)) (λ m a q. get_or l.edges m (None, 0) ≡ (Some a, q)) l.letter-index l.fn.rows.items l.rows.items
