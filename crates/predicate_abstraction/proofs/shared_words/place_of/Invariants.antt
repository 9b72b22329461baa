use Rattle.std.proofs.Common.{◌-◌, ◌<◌, ℕ, length, get_or}
use Rattle.predicate_abstraction.proofs.shared_words.place_of.Given as goal

abbrev pub invariant-edges : goal.invariant-edges
invariant-edges l = (k : ℕ) → k < l.at → (get_or l.edges k (0, 0)).0 < l.letter

abbrev pub decreases-edges : goal.decreases-edges
decreases-edges l = length l.edges - l.at
