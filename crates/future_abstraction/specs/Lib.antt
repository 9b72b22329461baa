pub mod FutureLaws
pub mod Futures
pub mod Signatures
pub mod private
