pub mod Stored
pub mod Opening
pub mod Frames
pub mod Journal
pub mod Holding
