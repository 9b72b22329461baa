-- What proofs of other crates take from here: what holds of all of a list, texts of runs and automata that mean them, and automata that are the same.
pub use Rattle.certificate.proofs.ListFacts.{AllByRecursion-append, AllPairs-append, AllPairs-mapped}
pub use Rattle.certificate.proofs.RunReading.{run_is_read}
pub use Rattle.certificate.proofs.SafeReading.{safe_text_means}
pub use Rattle.certificate.proofs.SameAutomatonLemmas.{below_target, first_target, later_target}
