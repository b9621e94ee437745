pub mod Acting
pub mod Example
pub mod Latches
pub mod Plain
pub mod Replies
pub mod Terms
pub mod Works
