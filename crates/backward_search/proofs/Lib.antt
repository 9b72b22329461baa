pub mod ForCallers
pub mod CompleteAutomata
pub mod Refusals
pub mod TurnedRuns
pub mod Invariants
pub mod ToldOnce
