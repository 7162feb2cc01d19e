pub mod Joined
pub mod Queueing
pub mod Placed
