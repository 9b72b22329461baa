-- What proofs of other crates take from here: which words are accepted within a signature.
pub use Rattle.atoms.proofs.Signatures.{signature_accepts}
