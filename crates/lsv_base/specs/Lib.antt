pub mod LogNo
pub mod MemSink
pub mod MemSource
pub mod MemTexts
pub mod Moments
pub mod Outside
pub mod Script
pub mod Time
