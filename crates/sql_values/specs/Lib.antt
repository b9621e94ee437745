pub mod Arithmetic
pub mod Order
pub mod Truths
pub mod Tables
