pub mod Entry
pub mod Drawn
pub mod Sound
pub mod Value
pub mod Represents
pub mod Inner
