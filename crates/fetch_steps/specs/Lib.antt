pub mod Fetch
pub mod Acts
pub mod Telling
pub mod Work
pub mod Places
pub mod Ways
