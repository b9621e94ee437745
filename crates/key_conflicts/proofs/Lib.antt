pub mod AskingLaws
pub mod ItemLaws
pub mod JudgedLaws
pub mod OrderLaws
pub mod StageLaws
