-- What proofs of other crates take from here: a search has one verdict, and of a search backward what was found is sound for the reversed problem.
pub use Rattle.protocol_search.proofs.Rounds.{found-sound, verdict-once}
