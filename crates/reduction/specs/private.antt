-- What only contracts of private functions cite.
pub mod Copies
pub mod Emptiness
pub mod Pruning
pub mod Renumbering
pub mod SilentMoves
