pub mod Images
pub mod Entries
pub mod Sounds
pub mod Runs
pub mod Openings
pub mod Laws
