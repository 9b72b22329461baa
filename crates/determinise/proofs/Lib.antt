pub mod Closures
pub mod Determinised
pub mod Digests
pub mod ForCallers
pub mod Grouping
pub mod MoveLists
pub mod Signatures
