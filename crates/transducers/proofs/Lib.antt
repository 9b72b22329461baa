pub mod ForCallers
pub mod ListLemmas
mod BuilderLemmas
mod SearchLemmas
mod Appended
pub mod PathLemmas
pub mod ExchangeLemmas
mod CombinationLemmas
mod IdentityLemmas
pub mod JoiningLemmas
pub mod CopyLemmas
