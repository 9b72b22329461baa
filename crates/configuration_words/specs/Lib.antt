pub mod Texts
pub mod ConfigurationText
pub mod OneReading
pub mod private
