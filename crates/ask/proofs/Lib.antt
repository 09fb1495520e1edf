pub mod Writings
pub mod Starts
