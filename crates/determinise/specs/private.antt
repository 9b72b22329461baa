-- What only contracts of private functions cite.
pub mod Determinised
pub mod Signatures
pub mod Subsets
