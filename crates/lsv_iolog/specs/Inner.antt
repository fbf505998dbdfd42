-- What proofs alone need: no public clause cites it.
pub mod Invariant
pub mod Scanning
pub mod Staging
pub mod Next
pub mod Judging
pub mod Cutting
