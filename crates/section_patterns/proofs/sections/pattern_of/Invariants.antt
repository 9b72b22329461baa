use Rattle.std.proofs.Common.{◌≡◌, drop}
use Rattle.section_patterns.specs.private.Lists.{pattern_for}
use Rattle.section_patterns.proofs.sections.pattern_of.Given as goal

abbrev pub invariant-parts : goal.invariant-parts
invariant-parts l =
    (l.part-items ≡ l.row.parts) × (pattern_for l.row.parts l.number ≡ pattern_for (drop l.part-index l.part-items) l.number)
