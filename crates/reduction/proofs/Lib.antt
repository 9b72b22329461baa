pub mod Copies
pub mod ForCallers
pub mod PairEquality
pub mod Parts
pub mod Reductions
pub mod Rejection
pub mod SilentMoves
pub mod Simulations
