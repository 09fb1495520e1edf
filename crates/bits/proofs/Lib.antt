pub mod Laws
pub mod Packs
pub mod Inks
