pub mod Calls
pub mod Pool
pub mod Serving
pub mod Local
pub mod Events
pub mod Laws
pub mod Examples
