use Rattle.std.proofs.Common.{◌≡◌, ◌+◌, ◌/◌, ◌<◌, ℕ, IsTrue, length}
use Rattle.word_automata.specs.Path.{is_accepting}
use Rattle.bit_set.specs.Bits.{Has}
use Rattle.bit_subsets.proofs.accepting_states.Given as goal

abbrev pub invariant-states : goal.invariant-states
invariant-states l = record {
  room : length l.accepting ≡ length l.automaton.states / 64 + 1;
  only : (q : ℕ) → Has l.accepting q → IsTrue (is_accepting l.automaton.states q);
  all : (q : ℕ) → q < l.state → IsTrue (is_accepting l.automaton.states q) → Has l.accepting q;
}
