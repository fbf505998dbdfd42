pub mod Bytes
pub mod TornLemmas
pub mod Files
pub mod View
pub mod Throughout
pub mod Memory
