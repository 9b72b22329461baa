-- What proofs of other crates take from here: the first fault of a text, as what its reading says.
pub use Rattle.command_replies.proofs.Refused.{by_grammar, by_names, refusal_once, refused_or_faultless}
