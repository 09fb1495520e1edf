pub mod Answers
pub mod Working
