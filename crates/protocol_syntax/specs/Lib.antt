pub mod MoveLetters
pub mod Grammar
pub mod Properties
pub mod Spacing
pub mod OneReading
pub mod FirstLanguage
pub mod Limits
pub mod private
