pub mod Possible
pub mod Rounds
pub mod Offers
pub mod Refusals
