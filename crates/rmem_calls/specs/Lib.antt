pub mod Giving
pub mod Registering
pub mod Invalidating
pub mod Seeing
pub mod Seating
