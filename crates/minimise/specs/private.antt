-- What only contracts of private functions cite.
pub mod BreadthFirst
pub mod Numbering
pub mod Rounds
pub mod Splitters
