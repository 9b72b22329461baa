pub mod Bits
pub mod Digest
pub mod SetLists
pub mod private
