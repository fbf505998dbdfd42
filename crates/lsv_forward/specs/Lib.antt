pub mod Numbers
pub mod Logs
pub mod Carried
pub mod Run
pub mod Inner
