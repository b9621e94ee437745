pub mod Members
pub mod Admissions
pub mod Sound
pub mod Past
pub mod Steps
pub mod Laws
pub mod Examples
