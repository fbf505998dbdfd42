pub mod Found
pub mod Going
pub mod Json
pub mod Lines
pub mod Starts
pub mod Walking
pub mod Written
