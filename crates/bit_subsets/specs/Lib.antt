pub mod Subsets
pub mod private
