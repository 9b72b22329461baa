use Rattle.std.proofs.Common.{◌≡◌, ◌<◌, ◌≤◌, ℕ, [], ◌∷◌, length, slice_index_or}
use Rattle.past_abstraction.specs.private.PastSets.{AreExpanded}
use Rattle.past_abstraction.specs.private.WordSets.{HasEmptyLists}
use Rattle.past_abstraction.proofs.Reversed.{StaysBelow}
use Rattle.past_abstraction.proofs.past_automaton.add_rounds.Given as goal

abbrev pub invariant-rounds : goal.invariant-rounds
invariant-rounds l = record {
  lists : HasEmptyLists l.a.letters l.lists.items;
  letters : l.builder.letters ≡ l.a.letters;
  within : l.first ≤ length l.sets.keys;
  all : length l.a.states ≤ length l.sets.keys;
  expanded : AreExpanded l.into l.builder l.sets.keys l.first 0;
  stays : (q : ℕ) → q < length l.a.states → StaysBelow l.builder l.first l.counter q;
  single : (q : ℕ) → q < length l.a.states → slice_index_or l.sets.keys q [] ≡ q ∷ [];
}
