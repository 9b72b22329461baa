use Rattle.std.proofs.Common.{length}
use Rattle.past_abstraction.specs.private.WordSets.{HasEmptyLists, HasNoMarks, AreBlocksOf, AreWordSets}
use Rattle.past_abstraction.proofs.word_sets.classes_by_rounds.Given as goal

abbrev pub invariant-rounds : goal.invariant-rounds
invariant-rounds l = record {
  lists : HasEmptyLists l.a.letters l.lists.items;
  marks : HasNoMarks (length l.a.states) l.marks;
  blocks : AreBlocksOf l.a l.sets.keys l.blocks;
  words : AreWordSets l.a l.counter l.first l.sets.keys;
}
