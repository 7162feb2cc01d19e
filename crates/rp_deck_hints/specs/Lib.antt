pub mod Places
pub mod Advice
pub mod Tables
pub mod AdviceOf
pub mod Hints
pub use Rattle.rp_deck.specs.rp_base
pub use Rattle.rp_deck
pub use Rattle.rp_explore_deck
