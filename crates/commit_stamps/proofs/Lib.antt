pub mod BeginLaws
pub mod BodyLaws
pub mod CommitLaws
pub mod EffectLaws
pub mod FieldLaws
pub mod PatchLaws
pub mod StampLaws
