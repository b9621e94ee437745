pub mod Versions
pub mod Places
pub mod HeldLaws
pub mod RootedLaws
pub mod NameLaws
pub mod GroupLaws
pub mod Example
