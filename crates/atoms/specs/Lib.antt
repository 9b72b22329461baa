pub mod Covers
pub mod private
