pub mod Turns
pub mod Figures
pub mod Links
pub mod Audits
