pub mod Values
pub mod Assigning
pub mod Acting
pub mod Serving
pub mod Calling
pub mod Turns
pub mod Computing
pub mod Digits
