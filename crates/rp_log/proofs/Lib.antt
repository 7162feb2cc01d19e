pub mod Paging
pub mod Places
pub mod Views
pub mod Tops
pub mod Steps
pub mod Learning
pub mod RecordedRuns
