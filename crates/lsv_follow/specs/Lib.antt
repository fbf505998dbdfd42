pub mod Ending
pub mod Faults
pub mod Followed
pub mod Following
pub mod Others
