pub mod World
pub mod Course
pub mod Once
pub mod Causes
pub mod Complete
pub mod InnerRun
