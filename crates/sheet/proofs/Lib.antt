pub mod Unions
pub mod Collecting
pub mod Keeping
