pub mod FileNames
pub mod ReadFile
pub mod ValidFiles
pub mod Names
pub mod Sizes
