pub mod Reading
pub mod Descending
pub mod Planning
pub mod Putting
pub mod Ending
pub mod Writing
pub mod Undoing
pub mod Example
