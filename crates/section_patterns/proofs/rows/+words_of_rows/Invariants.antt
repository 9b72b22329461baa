use Rattle.std.proofs.Common.{length}
use Rattle.section_patterns.proofs.rows.+words_of_rows.Given as goal

abbrev pub decreases-words_of_rows : goal.decreases-words_of_rows
decreases-words_of_rows l = length l.rows.now
