pub mod Steps
pub mod Written
pub mod Falls
pub mod Longest
pub mod Moves
pub mod Ways
