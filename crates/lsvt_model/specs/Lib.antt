pub mod Inner
pub mod Starting
pub mod Tables
pub mod Turning
pub mod Views
