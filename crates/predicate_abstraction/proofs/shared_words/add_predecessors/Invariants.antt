use Rattle.std.proofs.Common.{◌<◌, ◌≤◌, ℕ, take, length, get_or}
use Rattle.predicate_abstraction.specs.private.Pairs.{AddsPairs}
use Rattle.predicate_abstraction.specs.private.SharedWords.{AreSources}
use Rattle.predicate_abstraction.proofs.shared_words.add_predecessors.Given as goal

abbrev pub invariant-edges : goal.invariant-edges
invariant-edges l = record {
  adds : AddsPairs (AreSources (take l.letter-index l.into_a) l.into_b) l.fn.shared l.shared;
  less : (k j : ℕ) → k < l.from → l.letter-index ≤ j → j < length l.into_a → (get_or l.into_b k (0, 0)).0 < (get_or l.into_a j (0, 0)).0;
}
