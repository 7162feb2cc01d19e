pub mod TaskNames
pub mod Lanes
pub mod Charting
pub mod Losses
pub mod ScriptHistory
