-- What only contracts of private functions cite.
pub mod Alphabet
pub mod Kept
