pub mod BackLaws
pub mod ExampleLaws
pub mod LiftLaws
pub mod OrderLaws
pub mod UndoLaws
pub mod WriteLaws
