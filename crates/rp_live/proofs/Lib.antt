pub mod Running
pub mod Seating
pub mod Noting
pub mod Zips
pub mod Reading
mod Reporting
mod Over
pub mod Counting
pub mod WholeRun
mod Sums
