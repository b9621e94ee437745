pub mod Effects
pub mod Fields
pub mod Plans
pub mod Stamping
