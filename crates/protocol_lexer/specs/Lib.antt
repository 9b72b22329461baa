pub mod Piece
pub mod Place
pub mod Tokens
pub mod private
