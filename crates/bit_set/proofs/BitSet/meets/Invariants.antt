use Rattle.std.proofs.Common.{◌<◌, ◌*◌, ℕ}
use Rattle.bit_set.proofs.Sets.{HaveBoth}
use Rattle.bit_set.proofs.BitSet.meets.Given as goal

abbrev pub invariant-words : goal.invariant-words
invariant-words l = (k : ℕ) → k < l.at * 64 → HaveBoth l.self l.other k → ⊥
