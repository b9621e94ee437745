pub mod Entries
pub mod Falls
pub mod Lists
pub mod Moving
pub mod Replies
pub mod Stopped
