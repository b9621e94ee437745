pub mod Inner
pub mod Keys
pub mod Leaf
pub mod Undo
pub mod Views
