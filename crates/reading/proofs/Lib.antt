pub mod Pairs
pub mod BookSteps
