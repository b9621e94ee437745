pub mod ItemLaws
pub mod OrderLaws
pub mod ReaderLaws
pub mod StepLaws
pub mod UseLaws
pub mod VersionLaws
