pub mod PredicateLaws
pub mod Predicates
pub mod Signatures
pub mod private
