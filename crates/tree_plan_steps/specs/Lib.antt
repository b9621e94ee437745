pub mod Ways
pub mod Laws
pub mod Following
pub mod Planned
pub mod EventLaws
pub mod UndoItemLaws
pub mod Example
