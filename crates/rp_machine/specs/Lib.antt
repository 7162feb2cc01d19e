pub mod Calls
pub mod Replay
pub mod TallyRule
pub mod Asked
pub mod Places
pub mod Numbered
pub use Rattle.rp_base
