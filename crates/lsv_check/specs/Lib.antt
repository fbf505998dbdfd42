pub mod Checks
pub mod Seals
pub mod Alone
