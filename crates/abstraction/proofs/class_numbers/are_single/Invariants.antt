use Rattle.std.proofs.Common.{◌≡◌, ◌<◌, ℕ, get_or}
use Rattle.abstraction.proofs.class_numbers.are_single.Given as goal

abbrev pub invariant-states : goal.invariant-states
invariant-states l = (p : ℕ) → p < l.state → get_or l.classes p 0 ≡ p
