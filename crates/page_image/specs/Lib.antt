pub mod Image
pub mod Layout
pub mod Rules
pub mod Moves
pub mod Lending
pub mod Faults
pub mod Laws
pub mod Meta
