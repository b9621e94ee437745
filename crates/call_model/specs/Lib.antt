pub mod Callers
pub mod Servers
pub mod Network
pub mod Stages
pub mod Laws
pub mod Examples
