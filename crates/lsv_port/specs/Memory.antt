pub mod Laws
pub mod Link
pub mod Links
pub mod Numbers
pub mod Script
pub mod Value
