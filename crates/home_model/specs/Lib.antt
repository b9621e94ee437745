pub mod Numbered
pub mod Latch
pub mod Entry
pub mod Uses
