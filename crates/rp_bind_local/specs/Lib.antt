pub mod Numbered
pub mod Expressions
pub mod Statements
pub mod Operations
pub mod Objects
pub mod Calls
pub mod Bodies
pub use Rattle.rp_deck_declarations
