pub mod ForCallers
pub mod VerdictLists
