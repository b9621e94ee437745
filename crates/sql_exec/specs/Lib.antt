pub mod Answer
pub mod Changes
pub mod Extremes
pub mod Kept
pub mod Order
pub mod Seen
pub mod Totals
pub mod Whole
