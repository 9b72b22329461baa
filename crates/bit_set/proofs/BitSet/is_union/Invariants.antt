use Rattle.std.proofs.Common.{◌<◌, ℕ, get_or}
use Rattle.bit_set.specs.private.Words.{IsWordOfAll}
use Rattle.bit_set.proofs.BitSet.is_union.Given as goal

abbrev pub invariant-words : goal.invariant-words
invariant-words l = (k : ℕ) → k < l.at → IsWordOfAll l.sets l.places k (get_or l.self k 0)
