use Rattle.std.proofs.Common.{◌≡◌, ◌++◌, take, map}
use Rattle.std.specs.List.{flat_map}
use Rattle.protocol_layout.specs.Layout.{row_words, line}
use Rattle.protocol_layout.proofs.write_rows.Given as goal

abbrev pub invariant-rows : goal.invariant-rows
invariant-rows l = l.out.items ≡ l.fn.out.items ++ flat_map line (map (row_words l.head) (take l.row-index l.rows))
