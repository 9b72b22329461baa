pub mod Faults
pub mod FileLibrary
pub mod Library
pub mod MemoryLibrary
pub mod MemorySink
pub mod Sink
