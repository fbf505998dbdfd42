pub mod Inner
pub mod Masking
