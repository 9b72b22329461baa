pub mod Traversal
