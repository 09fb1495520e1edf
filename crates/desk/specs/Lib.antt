pub mod Commands
pub mod Replies
pub mod Lists
