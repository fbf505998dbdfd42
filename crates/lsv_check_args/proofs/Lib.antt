pub mod Asks
pub mod Identifiers
