use Rattle.std.proofs.Common.{◌≡◌, ◌<◌, ◌⊎◌, ℕ, Contains, length, get_or}
use Rattle.bit_set.specs.Bits.{Has}
use Rattle.past_abstraction.proofs.images.mark.Given as goal

abbrev pub invariant-states : goal.invariant-states
invariant-states l = record {
  room : length l.marks ≡ length l.fn.marks;
  only : (q : ℕ) → Has l.marks q → Has l.fn.marks q ⊎ Contains l.states q;
  all : (k : ℕ) → k < l.state-index → Has l.marks (get_or l.states k 0);
}
