mod Building
mod CheckForms
mod FormLemmas
mod Numbers
mod Options
mod OtherForms
mod Parsed
mod RelayForms
mod Walks
pub mod Asked
