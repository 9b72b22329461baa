pub mod ForCallers
pub mod InRow
mod Words
mod Meaning
mod Sets
mod Laws
mod Loops
mod TokenLaws
mod Repeats
mod Tells
mod AllTokens
mod Faults
pub mod Texts
pub mod EachLaws
pub mod MayMean
pub mod SaidWithin
