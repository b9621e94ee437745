pub mod ExampleLaws
pub mod WorkLaws
