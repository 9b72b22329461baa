use Rattle.std.proofs.Common.{◌≡◌, map, take}
use Rattle.protocol_properties.specs.Properties.{property_named, property_names}
use Rattle.protocol_properties.proofs.properties.resolve_blocks.Given as goal

-- the properties whose first blocks are among those so far
abbrev pub invariant-each_block : goal.invariant-each_block
invariant-each_block l = l.properties.items ≡ map (property_named l.system l.blocks) (property_names (take l.i l.blocks))
