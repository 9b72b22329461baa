use Rattle.std.proofs.Common.{◌<◌, ◌≤◌, ℕ, get_or}
use Rattle.abstraction.proofs.class_numbers.greatest.Given as goal

abbrev pub invariant-classes : goal.invariant-classes
invariant-classes l = (k d : ℕ) → k < l.class-index → get_or l.classes k d ≤ l.greatest
