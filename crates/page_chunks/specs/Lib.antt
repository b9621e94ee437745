pub mod Entries
pub mod Chunk
pub mod Moves
