pub mod Answers
pub mod Successors
pub mod OneAnswer
pub mod private
