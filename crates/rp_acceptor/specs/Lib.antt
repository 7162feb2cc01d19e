pub mod Comparing
pub mod Noted
pub mod First
pub mod Slots
pub mod Levels
