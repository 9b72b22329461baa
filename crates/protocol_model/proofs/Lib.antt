pub mod ForCallers
pub mod Below
pub mod Fitting
pub mod Cuts
pub mod KindLemmas
pub mod Lists
pub mod Walk
pub mod MoveFaults
pub mod Known
pub mod Distinct
pub mod InRange
pub mod Validity
pub mod AllowedTexts
mod Copied
pub mod Unchanged
