pub mod StateLemmas
pub mod ListLemmas
pub mod PatternLemmas
pub mod SectionLemmas
pub mod RowLemmas
pub mod FreeRows
