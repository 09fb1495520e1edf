pub mod Windows
pub mod Validity
pub mod Layouts
pub mod Cuts
pub mod Rising
pub mod ValidBooks
