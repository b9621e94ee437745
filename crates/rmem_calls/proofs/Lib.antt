pub mod Choosing
pub mod Answers
pub mod Marking
pub mod SeatingLemmas
pub mod EachPage
pub mod Dropping
