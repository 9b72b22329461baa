-- What only contracts of private functions cite.
pub mod LibraryReads
pub mod PartTexts
