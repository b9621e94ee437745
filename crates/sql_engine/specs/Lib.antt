pub mod Executed
pub mod Made
pub mod Read
pub mod Sound
