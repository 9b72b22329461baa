use Rattle.std.proofs.Common.{◌≡◌, map, take}
use Rattle.protocol_properties.specs.Sections.{section_text}
use Rattle.protocol_properties.proofs.sections.section_texts.Given as goal

abbrev pub invariant-sections : goal.invariant-sections
invariant-sections l = l.texts.items ≡ map section_text (take l.section-index l.sections)
