pub mod Untold
pub mod Places
pub mod Made
pub mod Drawn
pub mod Misplaced
pub mod Doubts
