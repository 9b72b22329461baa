pub mod Laws
pub mod KnownClasses
pub mod KnownRounds
pub mod Outcomes
pub mod private
