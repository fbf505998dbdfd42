-- What proofs alone need: no public clause cites it.
pub mod Reader
pub mod Spelled
