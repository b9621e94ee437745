pub mod Merging
pub mod Versions
