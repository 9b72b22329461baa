pub mod Chain
pub mod Meaning
