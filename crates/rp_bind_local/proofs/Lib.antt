pub mod Numbered
pub mod Adding
