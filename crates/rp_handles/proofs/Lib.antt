pub mod Decks
pub mod Handles
mod Headed
mod Places
pub mod Values
mod Putting
