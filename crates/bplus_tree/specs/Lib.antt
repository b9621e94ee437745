pub mod Found
pub mod Tree
pub mod Walk
pub mod Forest
