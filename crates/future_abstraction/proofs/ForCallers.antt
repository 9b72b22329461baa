-- What proofs of other crates take from here: states are related exactly where their signatures are equal.
pub use Rattle.future_abstraction.proofs.SignatureLemmas.{related_by_signature}
