pub mod ForCallers
pub mod CutLemmas
pub mod WordLemmas
pub mod WordFacts
pub mod EncodingLemmas
pub mod DecodingLemmas
pub mod TextLemmas
mod Loops
pub mod LetterLemmas
pub mod GrammarLemmas
pub mod TokenLemmas
