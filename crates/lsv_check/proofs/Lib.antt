pub mod Fixing
pub mod OneWay
pub mod Running
