pub mod Connections
pub mod Transcript
pub mod Table
