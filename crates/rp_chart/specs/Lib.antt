pub mod Charts
pub mod Causes
pub mod Effects
pub mod Prospects
pub mod ScriptHistory
pub mod ScriptCharts
pub use Rattle.rp_history.specs.rp_drawing
pub use Rattle.rp_history
