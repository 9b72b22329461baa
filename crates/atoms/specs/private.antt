-- What only contracts of private functions cite.
pub mod Adding
pub mod Family
pub mod Places
pub mod Rows
