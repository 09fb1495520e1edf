pub mod Contents
pub mod Layout
pub mod Grammar
