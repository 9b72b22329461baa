use Rattle.std.proofs.Common.{◌≡◌, filter}
use Rattle.std.specs.List.{range_with_len}
use Rattle.certificate_writing.specs.IndexedWriting.{labels_edge}
use Rattle.certificate_writing.proofs.letter_table.used_letters.Given as goal

abbrev pub invariant-letters : goal.invariant-letters
invariant-letters l = l.letters.items ≡ filter (labels_edge l.proof) (range_with_len 0 l.letter)
