pub mod Judged
pub mod Machine
pub mod Testing
