use Rattle.bit_set.proofs.Sets.{AreJoined}
use Rattle.bit_set.proofs.BitSet.add_all.Given as goal

abbrev pub invariant-words : goal.invariant-words
invariant-words l = AreJoined l.initial.self-inside.words.items l.other l.self-inside.words.items l.at
