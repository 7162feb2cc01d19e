pub mod Contents
pub mod Holding
pub mod Pages
pub mod Recorded
