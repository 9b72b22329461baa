pub mod Bounded
pub mod ForCallers
pub mod SignatureLemmas
pub mod Numbering
pub mod KeptClasses
