pub mod StartLemmas
pub mod ProgramLemmas
pub mod OnceLemmas
pub mod PostLemmas
pub mod ServeLemmas
pub mod LoadLemmas
pub mod TextLemmas
pub mod RelayLemmas
