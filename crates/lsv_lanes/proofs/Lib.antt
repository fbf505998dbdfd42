pub mod Deciding
pub mod Jobs
pub mod States
pub mod Stages
pub mod Alone
pub mod Ledgers
pub mod Together
pub mod Cases
