use Rattle.std.proofs.Common.{◌≡◌, ◌+◌, ◌/◌, ◌<◌, ℕ, Contains, length, get_or}
use Rattle.bit_set.specs.Bits.{Has}
use Rattle.bit_subsets.proofs.set_of.Given as goal

abbrev pub invariant-states : goal.invariant-states
invariant-states l = record {
  room : length l.set ≡ length l.automaton.states / 64 + 1;
  only : (q : ℕ) → Has l.set q → Contains l.states q;
  all : (k : ℕ) → k < l.state-index → Has l.set (get_or l.states k 0);
}
