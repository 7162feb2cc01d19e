pub mod Heard
pub mod Proposing
pub mod Room
pub mod Rows
