pub mod Digest
pub mod private
