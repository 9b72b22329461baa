-- What proofs of other crates take from here: tokens that are taken lie in the text, one after the other.
pub use Rattle.protocol_lexer.proofs.Lying.{LieInOrder-taken, lies_at}
