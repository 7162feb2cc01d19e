pub mod Store
pub mod Expressions
pub mod Meaning
pub mod Check
pub mod Ranges
