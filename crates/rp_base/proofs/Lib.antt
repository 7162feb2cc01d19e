pub mod SetsIntersect
pub mod Members
pub mod Sameness
pub mod Masks
pub mod MoreRecords
pub mod ReportedVotes
pub mod Apart
pub mod Stretches
