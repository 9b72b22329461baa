pub mod Families
pub mod ForCallers
pub mod Growth
pub mod RowsByState
pub mod Signatures
pub mod Turning
pub mod Unions
pub mod UsedStates
