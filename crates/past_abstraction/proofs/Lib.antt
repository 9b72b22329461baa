pub mod Adding
pub mod Expanding
pub mod ImageStates
pub mod PastClasses
pub mod PreimageStates
pub mod Reversed
pub mod Rounds
pub mod WordClasses
