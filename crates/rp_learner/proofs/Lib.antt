pub mod VoteCounts
pub mod Placing
pub mod Voters
pub mod Writing
pub mod Outcomes
pub mod Alike
pub mod Advancing
pub mod Noting
