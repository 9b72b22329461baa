-- What only contracts of private functions cite.
pub mod Extents
pub mod Gathering
pub mod Simulation
