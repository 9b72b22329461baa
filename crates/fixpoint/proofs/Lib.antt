pub mod ForCallers
pub mod BadParts
pub mod Growth
pub mod IndexLemmas
pub mod KnownLemmas
pub mod LastLemmas
pub mod MergedLemmas
