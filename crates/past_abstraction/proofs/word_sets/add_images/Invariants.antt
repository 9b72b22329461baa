use Rattle.std.proofs.Common.{[], length, slice_index_or}
use Rattle.past_abstraction.specs.private.WordSets.{LeadsFrom, AreBlocksOf, HasNoMarks}
use Rattle.past_abstraction.proofs.Adding.{AddsImagesBefore}
use Rattle.past_abstraction.proofs.ImageStates.{AreListsFrom}
use Rattle.past_abstraction.proofs.word_sets.add_images.Given as goal

abbrev pub invariant-letters : goal.invariant-letters
invariant-letters l = record {
  lists : AreListsFrom (LeadsFrom l.a (slice_index_or l.fn.sets.keys l.number [])) l.a.letters l.letter l.lists.items;
  marks : HasNoMarks (length l.a.states) l.marks;
  blocks : AreBlocksOf l.a l.sets.keys l.blocks;
  images : AddsImagesBefore l.a (slice_index_or l.fn.sets.keys l.number []) l.letter l.fn.sets.keys l.sets.keys;
}
