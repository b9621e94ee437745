pub mod Evaluation
pub mod Kinds
pub mod Names
pub mod Places
pub mod Ranges
pub mod Refusals
pub mod Sorts
pub mod Terms
