use Rattle.std.proofs.Common.{◌≡◌, ◌++◌, take}
use Rattle.std.specs.List.{flat_map}
use Rattle.protocol_syntax.specs.Spacing.{spaced}
use Rattle.protocol_layout.proofs.write_each.Given as goal

abbrev pub invariant-items : goal.invariant-items
invariant-items g l = l.out.items ≡ l.fn.out.items ++ flat_map spaced (flat_map g.T.Written.words (take l.item-index l.items))
