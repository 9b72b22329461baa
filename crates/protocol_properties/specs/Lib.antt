pub mod Sections
pub mod Properties
