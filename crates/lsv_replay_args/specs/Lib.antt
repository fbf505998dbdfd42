pub mod Asked
pub mod Decimal
pub mod Forms
pub mod Program
pub mod Request
pub mod Streams
pub mod Texts
pub mod Unfit
