pub mod Sets
pub mod Support
pub mod Propagation
pub mod Steps
pub mod Laws
