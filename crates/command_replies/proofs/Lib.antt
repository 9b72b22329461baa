pub mod ForCallers
pub mod Refused
