pub mod ItemSteps
pub mod Halves
pub mod SplitSteps
pub mod RootSteps
pub mod PlanSteps
pub mod Structures
pub mod Logs
pub mod ExampleLog
