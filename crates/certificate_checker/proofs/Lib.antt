pub mod ForCallers
pub mod Soundness
pub mod SameLanguage
pub mod Least
pub mod Parts
pub mod OneAnswerLemmas
