pub mod Images
pub mod Pairs
pub mod Gaps
pub mod private
