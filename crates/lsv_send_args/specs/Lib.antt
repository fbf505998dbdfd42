pub mod Asked
pub mod Port
pub mod Program
pub mod Request
