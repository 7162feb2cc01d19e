pub mod Reading
pub mod Packets
pub mod ItemLines
