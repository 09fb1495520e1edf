pub mod Singles
pub mod Smalls
pub mod Opened
pub mod Rises
pub mod Descents
pub mod Roomy
