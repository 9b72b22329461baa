use Rattle.std.proofs.Common.{length}
use Rattle.section_patterns.proofs.sections.+add_sections.Given as goal

abbrev pub decreases-add_sections : goal.decreases-add_sections
decreases-add_sections l = length l.sections.now
