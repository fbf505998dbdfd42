mod Digits
pub mod Layouts
mod Lengths
mod Lines
mod Numerals
pub mod Once
pub mod Points
mod Readers
mod Signals
mod Splits
mod Times
pub mod Tallies
mod Told
pub mod Windows
