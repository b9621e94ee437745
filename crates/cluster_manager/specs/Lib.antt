pub mod Freeing
pub mod Steps
pub mod Takeover
pub mod Order
pub mod Samples
