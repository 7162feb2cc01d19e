pub mod Calls
pub mod Line
