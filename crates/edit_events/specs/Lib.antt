pub mod Reading
pub mod Descending
pub mod Planning
pub mod Grounds
pub mod Events
pub mod Example
