pub mod Descending
pub mod Entries
pub mod Finding
pub mod Order
pub mod Ranges
pub mod Readable
pub mod Running
pub mod Telling
