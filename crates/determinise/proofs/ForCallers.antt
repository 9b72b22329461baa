-- What proofs of other crates take from here: the number by which a set of states is hashed.
pub use Rattle.determinise.proofs.Digests.{digest_more}
