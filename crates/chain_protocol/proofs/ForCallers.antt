-- What proofs of other crates take from here: the text of the chain says it.
pub use Rattle.chain_protocol.proofs.ChainSaid.{text_says_chain}
