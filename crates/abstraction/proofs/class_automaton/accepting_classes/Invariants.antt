use Rattle.std.proofs.Common.{◌≡◌, ◌<◌, ◌↔◌, ℕ, true, false, IsTrue, length, slice_index, slice_index_or}
use Rattle.word_automata.specs.Path.{is_accepting}
use Rattle.abstraction.proofs.class_automaton.accepting_classes.Given as goal

abbrev pub invariant-states : goal.invariant-states
invariant-states l = record {
  count : length l.accepting.items ≡ length l.a.states;
  accepting : (k : ℕ) → (slice_index_or l.accepting.items k false ≡ true) ↔ ((p : ℕ) × (p < l.state) × IsTrue (is_accepting l.a.states p) × (slice_index l.firsts p ≡ k));
}
