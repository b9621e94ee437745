pub mod Storage
pub mod Serving
pub mod Shipping
pub mod Keeping
pub mod Joining
pub mod Noting
