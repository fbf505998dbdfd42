pub mod Json
pub mod Lines
pub mod Sealed
pub mod Status
pub mod Sums
pub mod Text
pub mod Verdicts
pub mod Walks
