pub mod Histories
pub mod Views
pub mod Frame
pub mod Pages
pub use Rattle.rp_drawing
pub use Rattle.rp_model
