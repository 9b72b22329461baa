pub mod Transducer
pub mod Builder
pub mod Search
pub mod Combination
pub mod Joining
