pub mod Inner
pub mod Lines
pub mod Refusals
pub mod Settings
pub mod Table
pub mod Texts
pub mod Values
