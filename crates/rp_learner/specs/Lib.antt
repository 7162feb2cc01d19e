pub mod Learning
pub mod Casts
pub mod Place
pub mod Places
pub mod Status
