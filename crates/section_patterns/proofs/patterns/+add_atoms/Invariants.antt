use Rattle.std.proofs.Common.{length}
use Rattle.section_patterns.proofs.patterns.+add_atoms.Given as goal

abbrev pub decreases-add_atoms : goal.decreases-add_atoms
decreases-add_atoms l = length l.atoms.now
