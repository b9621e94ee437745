pub mod Logs
pub mod EveryCall
