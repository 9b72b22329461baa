pub mod Limits
pub mod Results
pub mod private
