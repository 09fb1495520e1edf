pub mod Looks
pub mod Frames
pub mod Searches
