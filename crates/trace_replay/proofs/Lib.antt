pub mod ForCallers
mod Levels
mod RunLemmas
pub mod Climbs
