pub mod Ports
pub mod InnerEndpoint
