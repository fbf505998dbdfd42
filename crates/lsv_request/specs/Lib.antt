pub mod Refusals
pub mod Requests
pub mod Judged
pub mod Stored
