pub mod Signals
pub mod Meanings
pub mod Refusing
