pub mod Objects
pub mod ObjectViews
pub mod ObjectLimits
pub use Rattle.rp_deck_bodies
