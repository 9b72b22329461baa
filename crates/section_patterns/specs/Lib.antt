pub mod ConfigurationWords
pub mod private
