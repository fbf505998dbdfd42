pub mod Over
pub mod Put
pub mod Read
