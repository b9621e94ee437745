pub mod Ends
pub mod Needed
pub mod Planned
