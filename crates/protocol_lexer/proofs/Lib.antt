pub mod ForCallers
pub mod Lying
pub mod Taking
