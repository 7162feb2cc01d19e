pub mod SeatTurns
pub mod Reporting
pub mod Seating
pub mod Listed
pub mod Auditing
pub mod TaskTurns
pub mod WorldOrder
pub mod TaskOrder
pub mod AuditOrder
pub mod OneWorld
mod Uncounted
