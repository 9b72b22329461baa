-- What only contracts of private functions cite.
pub mod Levels
pub mod Meetings
