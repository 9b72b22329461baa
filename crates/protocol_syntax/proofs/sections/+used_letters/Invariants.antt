use Rattle.std.proofs.Common.{length}
use Rattle.protocol_syntax.proofs.sections.+used_letters.Given as goal

abbrev pub decreases-used_letters : goal.decreases-used_letters
decreases-used_letters l = length l.sections.now
