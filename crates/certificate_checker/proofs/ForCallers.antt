-- What proofs of other crates take from here: a system that an automaton proves is safe.
pub use Rattle.certificate_checker.proofs.Soundness.{is_safe}
