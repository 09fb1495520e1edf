pub mod Books
pub mod Parse
