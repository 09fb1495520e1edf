pub mod Decisions
pub mod Persons
pub mod Named
pub mod Starts
pub mod Runs
