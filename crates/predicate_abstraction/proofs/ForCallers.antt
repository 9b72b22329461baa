-- What proofs of other crates take from here: states are related exactly where their signatures are equal.
pub use Rattle.predicate_abstraction.proofs.SignatureLaws.{related_by_signature}
