-- What proofs of other crates take from here: rests of lists, gathered lists, and moves at ends, at one position and at two.
pub use Rattle.protocol_moves.proofs.EndMove.{length_last, never}
pub use Rattle.protocol_moves.proofs.Gathered.{one_exactly, one_from, one_to}
pub use Rattle.protocol_moves.proofs.Lists.{drop_at, drop_more}
pub use Rattle.protocol_moves.proofs.OneMove.{at_length, pair_length}
pub use Rattle.protocol_moves.proofs.TwoMove.{is_same_self, same_is, two_given, two_length}
