pub mod Trails
pub mod Rooms
