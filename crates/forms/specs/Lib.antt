pub mod Symbol
pub mod Grammar
pub mod Concatenation
pub mod FirstFault
pub mod Shape
pub mod Reading
