use Rattle.std.proofs.Common.{◌≡◌, map, take}
use Rattle.protocol_model.specs.Numbering.{section_of}
use Rattle.protocol_model.proofs.resolution.copy_sections.Given as goal

abbrev pub invariant-sections : goal.invariant-sections
invariant-sections l = l.copies.items ≡ map section_of (take l.section-index l.sections)
