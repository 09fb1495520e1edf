pub mod Universal
pub mod Boxes
pub mod Steps
pub mod Laws
