pub mod LedgerLemmas
pub mod LinkLemmas
pub mod NumberLemmas
pub mod PortLemmas
pub mod RunLemmas
pub mod StepLemmas
pub mod TurnLemmas
