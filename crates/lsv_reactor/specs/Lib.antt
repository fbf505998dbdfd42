pub mod Calls
pub mod Endpoints
pub mod Served
pub mod InnerLoop
