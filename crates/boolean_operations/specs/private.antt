-- What only contracts of private functions cite.
pub mod DeadStates
pub mod MergedEdges
pub mod PairGraph
pub mod Products
pub mod Search
