-- What only contracts of private functions cite.
pub mod IndexedWritingParts
pub mod WritingParts
