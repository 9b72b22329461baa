use Rattle.std.proofs.Common.{◌≡◌, take}
use Rattle.bit_set.specs.Digest.{digest}
use Rattle.bit_set.proofs.words.digest.Given as goal

abbrev pub invariant-words : goal.invariant-words
invariant-words l = l.number ≡ digest (take l.word-index l.words)
