pub mod CommonWords
pub mod Complements
pub mod Equality
pub mod Inclusion
pub mod LeastWords
pub mod OptionalStates
pub mod private
