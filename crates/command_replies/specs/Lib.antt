pub mod Text
pub mod Delivery
pub mod Line
pub mod Reading
pub mod Refusal
pub mod Reply
