use Rattle.std.proofs.Common.{length}
use Rattle.past_abstraction.specs.private.WordSets.{HasEmptyLists, HasNoMarks, AreBlocksOf, AddsImagesOf}
use Rattle.past_abstraction.proofs.word_sets.add_images_from.Given as goal

abbrev pub invariant-sets : goal.invariant-sets
invariant-sets l = record {
  lists : HasEmptyLists l.a.letters l.lists.items;
  marks : HasNoMarks (length l.a.states) l.marks;
  blocks : AreBlocksOf l.a l.sets.keys l.blocks;
  images : AddsImagesOf l.a l.first l.number l.fn.sets.keys l.sets.keys;
}
