pub mod Versions
pub mod Stores
pub mod Contents
pub mod Held
pub mod Rooted
pub mod Groups
pub mod Reading
pub mod Example
