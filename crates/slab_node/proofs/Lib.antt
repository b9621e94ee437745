pub mod Counts
pub mod Parts
pub mod SlabLists
pub mod Copies
pub mod Renewing
