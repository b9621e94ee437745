pub mod Statements
pub mod Answering
pub mod Reader
