pub mod Sums
pub mod Short
