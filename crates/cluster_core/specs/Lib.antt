pub mod Desks
pub mod LedgerLaws
pub mod Ledgers
pub mod Pools
pub mod Recording
pub mod Stages
pub mod Taking
pub mod Turns
