pub mod ForCallers
pub mod Lists
pub mod Members
pub mod Successors
