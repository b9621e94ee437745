pub mod Stages
pub mod Wishes
pub mod Works
