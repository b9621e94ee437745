pub mod Uses
pub mod Texts
