pub mod BodyLaws
pub mod ChainExample
pub mod ChainLaws
pub mod ReadLaws
pub mod StepLaws
