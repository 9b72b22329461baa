-- What only contracts of private functions cite.
pub mod Chains
pub mod NumberHasher
pub mod StateTable
pub mod Worklist
