use Rattle.std.proofs.Common.{◌<◌, ◌+◌, ℕ, get_or}
use Rattle.predicate_abstraction.specs.private.Splitting.{HaveSameRows}
use Rattle.predicate_abstraction.proofs.splitting.are_whole.Given as goal

abbrev pub invariant-columns : goal.invariant-columns
invariant-columns l = (p : ℕ) → p < l.column → HaveSameRows l.set l.row (l.row + 3) (get_or l.classes p 0) p
