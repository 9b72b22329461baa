use Rattle.past_abstraction.specs.private.PastSets.{AreExpanded, Continues}
use Rattle.past_abstraction.specs.private.WordSets.{HasEmptyLists}
use Rattle.past_abstraction.proofs.construction.add_rows.Given as goal

abbrev pub invariant-states : goal.invariant-states
invariant-states l = record {
  lists : HasEmptyLists l.letters l.lists.items;
  expanded : AreExpanded l.into l.builder l.sets.keys l.number 0;
  continues : Continues l.first l.fn.builder l.builder l.fn.sets.keys l.sets.keys;
}
