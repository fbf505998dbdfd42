pub mod Found
pub mod Reading
pub mod Stored
pub mod Looking
