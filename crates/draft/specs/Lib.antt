pub mod Drafts
pub mod Entries
pub mod Encoding
pub mod Lengths
pub mod Trip
pub mod Writing
pub mod Written
