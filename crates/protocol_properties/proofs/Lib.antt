pub mod Apart
pub mod Written
pub mod Named
pub mod AllowedTexts
