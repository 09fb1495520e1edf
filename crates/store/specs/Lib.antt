pub mod Holdings
pub mod Meaning
pub mod Blank
pub mod Ring
pub mod Key
pub mod Slots
pub mod Making
