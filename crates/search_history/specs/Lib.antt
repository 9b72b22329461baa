pub mod Rounds
pub mod Replays
pub mod Histories
pub mod Counting
