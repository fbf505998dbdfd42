mod BadWords
pub mod Compiled
pub mod Evaluating
pub mod Failing
pub mod Naming
pub mod Parsing
pub mod Refusing
pub mod Walking
