pub mod Distinct
pub mod Members
pub mod Combinations
pub mod Bindings
pub mod Recordings
pub mod Changes
