use Rattle.std.proofs.Common.{◌≡◌, ◌<◌, ℕ, length, get_or}
use Rattle.certificate_writing.proofs.letter_table.indices_of.Given as goal

abbrev pub invariant-letters : goal.invariant-letters
invariant-letters l = record {
  count : length l.indices.items ≡ l.count;
  at : (i : ℕ) → i < l.index → get_or l.indices.items (get_or l.letters i 0) 0 ≡ i;
}
