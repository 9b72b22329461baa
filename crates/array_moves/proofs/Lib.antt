mod LetterLemmas
mod FixedLemmas
mod ControlLemmas
mod GuardLemmas
mod RunLemmas
mod MachineLemmas
