pub mod Patience
pub mod Advice
