pub mod HistoryLaws
pub mod ReadLaws
pub mod ChunkLaws
pub mod StoreLaws
