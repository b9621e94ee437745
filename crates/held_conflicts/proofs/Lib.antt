pub mod EndLaws
pub mod ExampleLaws
pub mod LeafLaws
pub mod MeetingLaws
pub mod VerdictLaws
