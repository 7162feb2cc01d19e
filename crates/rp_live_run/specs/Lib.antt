pub mod Figures
pub mod LiveOutput
pub mod LiveRun
pub use Rattle.rp_live
pub use Rattle.rp_script
