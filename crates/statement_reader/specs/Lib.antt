pub mod Answered
pub mod Decoding
pub mod Kept
pub mod Machine
pub mod Question
pub mod Reads
pub mod Spelling
