pub mod Outcomes
pub mod RecordLemmas
pub mod StopLemmas
pub mod TableLemmas
pub mod TurnLemmas
pub mod WorkLemmas
