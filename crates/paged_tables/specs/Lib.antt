pub mod Items
pub mod Catalog
pub mod Changes
pub mod Content
pub mod Places
