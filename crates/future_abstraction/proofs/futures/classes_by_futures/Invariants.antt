use Rattle.std.proofs.Common.{◌≡◌, suc, length}
use Rattle.minimise.specs.Refinement.{IsSplit}
use Rattle.future_abstraction.proofs.Bounded.{HasClassesBelow}
use Rattle.future_abstraction.proofs.futures.classes_by_futures.Given as goal

abbrev pub invariant-rounds : goal.invariant-rounds
invariant-rounds l = record {
  below : HasClassesBelow l.automaton (suc l.counter) l.classes.items;
  count : length l.older.items ≡ length l.automaton.states;
  split : IsSplit l.automaton l.older.items l.classes.items;
}
