-- What proofs of other crates take from here: the run of a replay that ends real is a chain to a bad word.
pub use Rattle.trace_replay.proofs.Climbs.{real_run_is_bad_chain}
