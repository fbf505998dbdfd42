pub mod Gates
pub mod Slots
pub mod Last
pub mod Value
pub mod Represents
pub mod Writing
pub mod Reading
