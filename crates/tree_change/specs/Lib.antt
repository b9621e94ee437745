pub mod Places
pub mod Room
pub mod Way
pub mod Pages
pub mod Changes
pub mod Splits
pub mod Effects
