pub mod FitLemmas
pub mod InsertLemmas
pub mod ListLemmas
pub mod MadeLemmas
pub mod NamedLemmas
pub mod ReadLemmas
pub mod WantedLemmas
pub mod RangeLemmas
