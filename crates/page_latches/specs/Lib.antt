pub mod Set
pub mod Holding
