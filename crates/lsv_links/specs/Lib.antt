pub mod Lanes
pub mod Views
pub mod Turns
pub mod Links
