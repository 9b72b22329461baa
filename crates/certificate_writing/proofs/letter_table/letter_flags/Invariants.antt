use Rattle.std.proofs.Common.{◌≡◌, ◌<◌, ℕ, false, length, get_or, take}
use Rattle.std.specs.List.{list_any}
use Rattle.certificate_writing.specs.IndexedWriting.{has_letter}
use Rattle.certificate_writing.proofs.letter_table.letter_flags.Given as goal

abbrev pub invariant-states : goal.invariant-states
invariant-states l = record {
  count : length l.flags.items ≡ l.proof.letters;
  marked :
      (a : ℕ) → a < l.proof.letters
      → get_or l.flags.items a false ≡ list_any (λ node. has_letter node.edges a) (take l.state l.proof.states);
}
