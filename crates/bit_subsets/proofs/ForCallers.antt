-- What proofs of other crates take from here: members of a list of states, letters of edges and of a list of successors.
pub use Rattle.bit_subsets.proofs.Lists.{AreStates-members, letter_within, increasing_push}
