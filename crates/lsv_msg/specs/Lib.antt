pub mod Format
pub mod Messages
pub mod Fitting
