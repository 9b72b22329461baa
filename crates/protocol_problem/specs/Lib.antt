pub mod SystemTask
pub mod Compilation
pub mod Laws
