pub mod Drawing
pub mod Apart
pub mod Handling
pub mod Going
pub mod Moments
pub mod Joining
