pub mod Reading
pub mod Transcript
pub mod Plan
