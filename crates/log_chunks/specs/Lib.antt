pub mod Chunked
pub mod Log
pub mod History
