pub mod Order
pub mod Passes
pub mod Settled
