pub mod DeterministicSystem
pub mod Incoming
pub mod Numbering
pub mod Residuals
pub mod private
