pub mod Names
pub mod Texts
pub mod Arguments
pub mod Packages
pub mod Binds
pub use Rattle.rp_deck_declarations.specs.rp_words
