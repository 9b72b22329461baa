pub mod Reduction
pub mod Simulation
pub mod private
