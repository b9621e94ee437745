pub mod Ending
pub mod Example
pub mod Verdicts
