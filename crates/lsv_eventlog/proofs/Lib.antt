pub mod Laws
mod Making
mod Moments
mod Opening
