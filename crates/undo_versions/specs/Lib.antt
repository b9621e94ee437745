pub mod Appending
pub mod Chains
pub mod Effects
pub mod Reading
pub mod Walking
