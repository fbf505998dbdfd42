pub mod Same
pub mod Composition
pub mod Tearing
pub mod MemoryLemmas
