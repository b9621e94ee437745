pub mod Empty
pub mod FreeingLemmas
pub mod Removing
pub mod Seats
pub mod FirstUp
pub mod Ordered
pub mod Sampled
