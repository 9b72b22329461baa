pub mod Task
pub mod Reversal
pub mod FirstWords
pub mod RuleLists
pub mod ImageUnions
