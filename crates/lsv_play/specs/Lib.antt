pub mod Ahead
pub mod Beside
pub mod Faults
pub mod Items
pub mod MemScreen
pub mod Playing
pub mod Schedule
