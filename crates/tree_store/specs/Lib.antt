pub mod Rooms
pub mod Found
