pub mod EntryLaws
pub mod TakenLaws
pub mod MoveLaws
pub mod ChunkLaws
pub mod WaitLaws
pub mod SkipLaws
