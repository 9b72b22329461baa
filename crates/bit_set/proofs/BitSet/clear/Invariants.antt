use Rattle.std.proofs.Common.{◌≡◌, ◌<◌, ℕ, length, get_or}
use Rattle.bit_set.proofs.BitSet.clear.Given as goal

abbrev pub invariant-words : goal.invariant-words
invariant-words l = record {
  count : length l.self-inside.words.items ≡ length l.initial.self-inside.words.items;
  cleared : (k : ℕ) → k < l.at → get_or l.self-inside.words.items k 0 ≡ 0;
}
