pub mod StoredLaws
pub mod JournalLaws
pub mod FrameLaws
pub mod ChangeLaws
pub mod HoldLaws
pub mod OpeningLaws
