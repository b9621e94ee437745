pub mod Sets
pub mod Excluding
