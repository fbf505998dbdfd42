pub mod Jobs
pub mod Histories
pub mod Examples
