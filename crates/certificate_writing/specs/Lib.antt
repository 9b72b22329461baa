pub mod IndexedWriting
pub mod Writing
pub mod private
