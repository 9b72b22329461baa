pub mod Verdicts
pub mod Laws
pub mod Bounds
pub mod Exclusion
pub mod private
