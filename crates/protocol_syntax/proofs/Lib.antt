pub mod ForCallers
mod Unfolded
mod Letters
mod Together
pub mod Told
pub mod Within
pub mod Lexing
pub mod Printed
pub mod FirstLanguage
