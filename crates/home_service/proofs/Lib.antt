pub mod Plain
pub mod Seats
pub mod Reached
pub mod Framing
pub mod Moving
pub mod Registering
pub mod Invalidating
pub mod DuePages
