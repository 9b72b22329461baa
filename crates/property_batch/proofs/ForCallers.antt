-- What proofs of other crates take from here: verdicts of a batch by number.
pub use Rattle.property_batch.proofs.VerdictLists.{by-number}
