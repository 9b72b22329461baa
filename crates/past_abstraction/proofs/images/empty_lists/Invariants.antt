use Rattle.past_abstraction.specs.private.WordSets.{HasEmptyLists}
use Rattle.past_abstraction.proofs.images.empty_lists.Given as goal

abbrev pub invariant-letters : goal.invariant-letters
invariant-letters l = HasEmptyLists l.counter l.lists.items
