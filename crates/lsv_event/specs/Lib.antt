pub mod Controls
pub mod Dates
pub mod Escapes
pub mod Events
pub mod InnerLine
pub mod JsonLine
pub mod Lines
pub mod SudoLine
