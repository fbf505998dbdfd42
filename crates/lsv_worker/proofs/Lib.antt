pub mod Routes
pub mod Cutting
pub mod Putting
pub mod Wanting
pub mod Ports
pub mod FrameLemmas
pub mod Speaking
pub mod Linking
pub mod Ruling
pub mod Away
pub mod Tables
pub mod Crowds
pub mod Order
pub mod Owning
mod Reading
pub mod Passing
pub mod Notes
pub mod Going
pub mod Taking
pub mod Tells
pub mod Beginning
mod Counting
pub mod Memories
