use Rattle.std.proofs.Common.{◌≡◌, ◌<◌, ℕ, Some, length, slice_index, slice_get}
use Rattle.word_automata.specs.Path.{Node}
use Rattle.minimise.specs.private.Rounds.{outgoing_in, hash_of}
use Rattle.minimise.proofs.hashing.hash_all.Given as goal

abbrev pub invariant-states : goal.invariant-states
invariant-states l = record {
  finer : length l.finer.items ≡ length l.rows;
  each : (q : ℕ) (state : Node ℕ) → q < l.state → slice_get l.rows q ≡ Some state → slice_index l.finer.items q ≡ hash_of (outgoing_in l.classes state);
}
