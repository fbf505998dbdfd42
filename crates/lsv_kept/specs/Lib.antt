pub mod Aim
pub mod Faults
pub mod Inner
pub mod Kept
pub mod Value
