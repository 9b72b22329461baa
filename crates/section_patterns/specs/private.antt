-- What only contracts of private functions cite.
pub mod Languages
pub mod Lists
