pub mod Complete
pub mod Ends
pub mod Faults
pub mod Inner
pub mod Talk
pub mod Talks
pub mod Transcripts
pub mod Value
