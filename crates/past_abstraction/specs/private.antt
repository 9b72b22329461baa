-- What only contracts of private functions cite.
pub mod PastSets
pub mod WordSets
