use Rattle.std.proofs.Common.{◌<◌, ◌*◌, ℕ}
use Rattle.bit_set.specs.Bits.{Has}
use Rattle.bit_set.proofs.BitSet.is_within.Given as goal

abbrev pub invariant-words : goal.invariant-words
invariant-words l = (k : ℕ) → k < l.at * 64 → Has l.self k → Has l.other k
