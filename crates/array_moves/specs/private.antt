-- What only contracts of private functions cite.
pub mod ControlStates
pub mod Fixed
pub mod Flags
