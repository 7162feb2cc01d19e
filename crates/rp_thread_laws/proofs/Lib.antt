pub mod Rotating
pub mod Reporting
pub mod Passing
pub mod Keys
pub mod Summing
