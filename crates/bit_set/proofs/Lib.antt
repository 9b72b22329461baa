pub mod Additions
pub mod Bits
pub mod Digests
pub mod ForCallers
pub mod Sets
pub mod SetsAtPlaces
