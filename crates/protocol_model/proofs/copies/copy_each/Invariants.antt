use Rattle.std.proofs.Common.{◌≡◌, take}
use Rattle.protocol_model.proofs.copies.copy_each.Given as goal

abbrev pub invariant-items : goal.invariant-items
invariant-items g l = l.copies.items ≡ take l.item-index l.items
