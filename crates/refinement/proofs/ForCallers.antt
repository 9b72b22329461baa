-- What proofs of other crates take from here: which history and verdict there is, that a verdict is sound, and what bounds the rounds.
pub use Rattle.refinement.proofs.Bounds.{history-bounded, history-larger}
pub use Rattle.refinement.proofs.Exclusion.{refuted_once}
pub use Rattle.refinement.proofs.KeyBounds.{rounds_bounded}
pub use Rattle.refinement.proofs.OneVerdict.{verdict-unique}
pub use Rattle.refinement.proofs.SoundVerdicts.{verdict-is-sound}
pub use Rattle.refinement.proofs.Uniqueness.{automaton-unique, history-unique}
