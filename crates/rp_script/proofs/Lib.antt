mod Kept
pub mod Failing
