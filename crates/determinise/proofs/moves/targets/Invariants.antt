use Rattle.determinise.proofs.MoveLists.{HasTargets}
use Rattle.determinise.proofs.moves.targets.Given as goal

abbrev pub invariant-moves : goal.invariant-moves
invariant-moves l = HasTargets l.moves l.targets.items l.to-index
