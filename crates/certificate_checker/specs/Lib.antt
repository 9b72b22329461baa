pub mod Proof
pub mod Answers
pub mod OneAnswer
pub mod private
