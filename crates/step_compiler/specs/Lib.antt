pub mod Rules
pub mod Sections
