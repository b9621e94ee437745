pub mod Finding
pub mod Items
pub mod Landing
pub mod Laws
pub mod Machine
pub mod Uses
pub mod Walked
