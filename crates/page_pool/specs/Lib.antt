pub mod Nodes
pub mod Events
pub mod State
pub mod Calls
pub mod Steps
pub mod Laws
