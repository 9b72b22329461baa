pub mod Canonical
pub mod Refinement
pub mod Signatures
pub mod SignatureLaws
pub mod private
