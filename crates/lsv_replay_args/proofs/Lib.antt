pub mod Asks
pub mod Building
pub mod Cuts
pub mod Decimals
pub mod FormLemmas
pub mod Names
pub mod Parsed
pub mod Rows
pub mod TextWords
pub mod Walking
mod Unfits
