pub mod Laws
pub mod Rows
pub mod Telling
pub mod Waiting
