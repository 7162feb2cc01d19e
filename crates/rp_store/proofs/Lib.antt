pub mod Whole
pub mod Calls
pub mod ReadAgain
