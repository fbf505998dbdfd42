pub mod Tables
pub mod Jobs
pub mod Replies
