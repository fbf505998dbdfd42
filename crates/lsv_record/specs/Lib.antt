pub mod Inner
pub mod Layout
pub mod Lines
pub mod Points
pub mod Records
pub mod Tally
