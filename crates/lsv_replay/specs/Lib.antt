pub mod Faults
pub mod Held
pub mod Listing
pub mod Numbers
pub mod Replay
pub mod Status
pub mod Tasks
pub mod Walk
