pub mod Members
pub mod Turns
pub mod Combining
pub mod Changes
pub mod Steps
