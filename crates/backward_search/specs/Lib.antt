pub mod BackwardVerdicts
pub mod Laws
