-- What only contracts of private functions cite.
pub mod Codes
pub mod Pairs
pub mod SharedWords
pub mod Splitting
