-- What proofs of other crates take from here: numbers and their texts, fields that are written, lines that lead on, and that a text has one answer.
pub use Rattle.lines.proofs.FieldLists.{fields_say}
pub use Rattle.lines.proofs.Laws.{cut_says}
pub use Rattle.lines.proofs.Leading.{Lacks-from_test, Leads-append, ended_text_is, means_read}
pub use Rattle.lines.proofs.NumberLemmas.{decimal_lacks, number_says}
pub use Rattle.lines.proofs.TextLaws.{answer_one}
