mod AlphabetLemmas
mod Building
mod ConfigurationReading
mod ListFacts
mod OneReadingLemmas
mod Places
mod RunReading
mod SafeReading
mod SameAutomatonLemmas
mod Taking
pub mod ForCallers
