pub mod Slots
pub mod Step
pub mod Call
pub mod Node
pub mod Learning
