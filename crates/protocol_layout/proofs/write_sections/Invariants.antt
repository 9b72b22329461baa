use Rattle.std.proofs.Common.{◌≡◌, ◌++◌, take, map}
use Rattle.std.specs.List.{flat_map}
use Rattle.protocol_layout.specs.Layout.{section_words, line}
use Rattle.protocol_layout.proofs.write_sections.Given as goal

abbrev pub invariant-sections : goal.invariant-sections
invariant-sections l = l.out.items ≡ l.fn.out.items ++ flat_map line (map section_words (take l.section-index l.sections))
