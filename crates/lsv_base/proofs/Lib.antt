pub mod Digits
pub mod Filled
pub mod MomentsLeft
pub mod LogNumbers
pub mod Nanoseconds
