pub mod PastLaws
pub mod Pasts
pub mod private
