pub mod Counter
pub mod Mirrored
