pub mod Labels
pub mod Post
pub mod CallerView
pub mod ServerView
pub mod Service
pub mod Runs
pub mod Samples
