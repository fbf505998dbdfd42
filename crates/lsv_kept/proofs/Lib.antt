pub mod Hosts
pub mod Keepings
pub mod Opening
pub mod Reading
pub mod Rooms
pub mod Staying
pub mod Unique
