pub mod Undone
pub mod Fewer
pub mod Adopting
pub mod Kept
