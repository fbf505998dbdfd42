pub mod Counts
pub mod Ends
pub mod Items
pub mod Joining
pub mod Merging
pub mod Places
pub mod Steps
