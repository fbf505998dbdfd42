pub mod Events
pub mod Json
pub mod Reading
pub mod Tallies
pub mod Text
pub mod Walks
