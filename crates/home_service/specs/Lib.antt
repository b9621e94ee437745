pub mod HomeSide
pub mod Serving
pub mod Keeping
pub mod Joining
