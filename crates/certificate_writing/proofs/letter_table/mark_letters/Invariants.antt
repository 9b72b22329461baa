use Rattle.std.proofs.Common.{◌≡◌, ◌<◌, ◌||◌, ℕ, false, length, get_or, take}
use Rattle.certificate_writing.specs.IndexedWriting.{has_letter}
use Rattle.certificate_writing.proofs.letter_table.mark_letters.Given as goal

abbrev pub invariant-edges : goal.invariant-edges
invariant-edges l = record {
  count : length l.flags.items ≡ length l.fn.flags.items;
  marked :
      (a : ℕ) → a < length l.fn.flags.items
      → get_or l.flags.items a false ≡ (get_or l.fn.flags.items a false || has_letter (take l.edge-index l.edges) a);
}
