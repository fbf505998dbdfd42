-- The disk in memory: the calls that it keeps, and what follows from them.
pub mod Calls
pub mod Stored
pub mod Laws
pub mod Images
pub mod Flat
pub mod Value
