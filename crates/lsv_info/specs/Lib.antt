pub mod Fitting
pub mod Info
pub mod Layout
pub mod Reading
pub mod Shown
