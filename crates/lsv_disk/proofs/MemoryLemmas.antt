-- The disk in memory.
pub mod Found
pub mod Past
pub mod Noting
pub mod Changed
pub mod Outcomes
pub mod Frames
pub mod Each
pub mod Durability
pub mod Leaving
pub mod Holding
pub mod Imaging
pub mod Flattening
