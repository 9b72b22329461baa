-- What only contracts of private functions cite.
pub mod CopyingStates
pub mod Triples
