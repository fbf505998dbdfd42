pub mod Ends
pub mod Meter
pub mod Pairs
pub mod Relays
pub mod Story
