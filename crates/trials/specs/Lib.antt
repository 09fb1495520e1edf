pub mod Picks
pub mod Trials
pub mod Laws
