pub mod Frame
pub mod Varint
pub mod Fields
