use Rattle.std.proofs.Common.{◌≡◌, map, take}
use Rattle.protocol_model.specs.Numbering.{row_of}
use Rattle.protocol_properties.specs.Properties.{rows_named}
use Rattle.protocol_properties.proofs.properties.resolve_rows_named.Given as goal

-- the rows of the blocks so far
abbrev pub invariant-each_block : goal.invariant-each_block
invariant-each_block l = l.rows.items ≡ map (row_of l.sections) (rows_named l.name.text (take l.block-index l.blocks))
