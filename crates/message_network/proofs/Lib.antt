pub mod Memories
pub mod Drafts
pub mod Sending
pub mod Kept
pub mod Simulation
pub mod Promises
pub mod Cases
