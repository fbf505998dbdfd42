pub mod EndLemmas
pub mod PairLemmas
pub mod RelayLemmas
pub mod Stories
