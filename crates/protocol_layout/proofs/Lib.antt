pub mod ForCallers
pub mod Lexing
pub mod MovesWritten
pub mod PartsWritten
pub mod ReadBack
pub mod WordsWritten
