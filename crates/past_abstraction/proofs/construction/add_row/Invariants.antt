use Rattle.std.proofs.Common.{[], slice_index_or}
use Rattle.past_abstraction.specs.private.PastSets.{LeadsInto, AreExpanded, Continues}
use Rattle.past_abstraction.proofs.ImageStates.{AreListsFrom}
use Rattle.past_abstraction.proofs.construction.add_row.Given as goal

abbrev pub invariant-letters : goal.invariant-letters
invariant-letters l = record {
  lists : AreListsFrom (LeadsInto l.into (slice_index_or l.fn.sets.keys l.number [])) l.letters l.letter l.lists.items;
  expanded : AreExpanded l.into l.builder l.sets.keys l.number l.letter;
  continues : Continues l.number l.fn.builder l.builder l.fn.sets.keys l.sets.keys;
}
