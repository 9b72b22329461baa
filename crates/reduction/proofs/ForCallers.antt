-- What proofs of other crates take from here: what is kept accepts the same words, states above others accept what these do, and no pairs
-- are included.
pub use Rattle.reduction.proofs.Reductions.{kept_accept, starts_keep, states_keep_less, states_keep_twice}
pub use Rattle.reduction.proofs.Simulations.{below_accepts, included_none}
