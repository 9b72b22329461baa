pub mod Runs
pub mod Methods
pub mod Deadlocks
pub mod Analyses
pub mod Verdicts
pub mod OneVerdict
pub mod SearchLaws
pub mod SystemHistories
