pub mod Inner
pub mod Moments
pub mod Recovered
pub mod Value
