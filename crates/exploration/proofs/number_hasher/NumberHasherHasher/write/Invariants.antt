use Rattle.std.proofs.Common.{◌≡◌, ◌+◌, ◌-◌, ◌≤◌, ◌/◌, ◌%◌, length}
use Rattle.exploration.specs.private.NumberHasher.{mixed_words}
use Rattle.exploration.proofs.number_hasher.NumberHasherHasher.write.Given as goal

abbrev pub invariant-words : goal.invariant-words
invariant-words l = record {
  whole : l.at % 8 ≡ 0;
  within : l.at ≤ length l.bytes + 7;
  mixed : l.number ≡ mixed_words l.bytes l.fn.self.number (l.at / 8);
}

abbrev pub decreases-words : goal.decreases-words
decreases-words l = length l.bytes - l.at
