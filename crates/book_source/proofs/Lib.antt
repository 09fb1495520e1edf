pub mod Each
pub mod Steps
pub mod Inversion
