pub mod Numbers
pub mod Passing
pub mod Bridge
pub mod Opening
pub mod Spacing
pub mod Sayings
