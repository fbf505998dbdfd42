pub mod Shape
pub mod Body
pub mod Value
pub mod Committed
pub mod Represents
pub mod Calls
pub mod InnerFiles
