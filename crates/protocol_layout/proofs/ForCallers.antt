-- What proofs of other crates take from here: the layout of a protocol says it again.
pub use Rattle.protocol_layout.proofs.ReadBack.{layout_says_again}
