pub mod Decks
pub mod Handles
pub mod Next
pub mod Advice
pub mod Packets
pub mod Status
